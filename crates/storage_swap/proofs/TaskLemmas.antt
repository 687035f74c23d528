-- A record of a register, of a task, or of the queues of a subpool changed sides with the storage.
use Rattle.std.proofs.Common.{◌≡◌, ℕ, ◌+◌, ◌-◌, ◌/◌, ◌<◌, ◌≤◌, inl, inr, Bool, true, false, ◌&&◌, ◌==◌, Some, None, if◌then◌else◌, List, slice_index_or, refl, ap, sym, ◌∙◌, arith}
use Rattle.std.specs.Prelude.{nat_lt}
use Rattle.std.proofs.lemmas.Bool.{eqb-true, cases_lt, lt-ltb, ltb-true, le-ltb}
use Rattle.run_set.specs.Runs.{inside}
use Rattle.vsm_elements.specs.Store.{Store, made_and_aside}
use Rattle.vsm_elements.specs.Owners.{times, Moves}
use Rattle.vsm_elements.specs.Ownership.{Leaves}
use Rattle.vsm_elements.proofs.MoveLemmas.{moves-of}
use Rattle.raw_region.specs.Frames.{PageFrame}
use Rattle.raw_region.specs.Pages.{byte_at}
use Rattle.task_tree.specs.declared.tree.TaskTree.{TaskTree as Tree}
use Rattle.task_tree.specs.Tasks.{parents_with}
use Rattle.task_tree.specs.TaskTree.{current, parent, word, IsTaskTree}
use Rattle.task_tree.specs.TaskTree
use Rattle.subpool_storage.specs.declared.storage.SubpoolStorage.{SubpoolStorage as Head}
use Rattle.storage_changes.specs.declared.record.RegisterRecord.{RegisterRecord}
use Rattle.storage_changes.specs.declared.record.RegistersRecord.{RegistersRecord}
use Rattle.storage_changes.specs.declared.record.TaskRecord.{TaskRecord}
use Rattle.storage_changes.specs.declared.record.Record.{Record}
use Rattle.storage_changes.specs.declared.record.Record.TheVariants.{Register, Registers, Task}
use Rattle.storage_changes.specs.State.{Tasks}
use Rattle.storage_changes.specs.Walk.{Walk}
use Rattle.storage_changes.specs.Steps.{step}
use Rattle.storage_changes.specs.Fits.{Fits}
use Rattle.storage_swap.specs.declared.storage.Parts.{Parts}
use Rattle.storage_swap.specs.Storage.{tasks_of, walk_of, StandsWith}
use Rattle.storage_swap.specs.Exchange.{Exchanges}
use Rattle.storage_changes.proofs.Cases.{cond-in, cond-out, and-false}
use Rattle.storage_changes.proofs.RegistersSteps.{among-four}
use Rattle.storage_swap.proofs.FourWords.{FirstWritten}
use Rattle.storage_swap.proofs.WalkLemmas.{walk-by-places}
use Rattle.storage_swap.proofs.CallLemmas.{tasks-pages, tasks-subpools, tasks-parked, tasks-stand, tasks-move}
use Rattle.storage_swap.proofs.SubpoolLemmas.{tables-same}

-- some of sixteen registers, and no others, have these words
pub registers : (old new : ℕ → ℕ → ℕ) (those : ℕ → ℕ → Bool) (v : ℕ → ℕ) → ((task k : ℕ) → 16 ≤ k → those task k ≡ false)
    → ((task k : ℕ) → k < 16 → new task k ≡ (if those task k then v k else old task k))
    → (task k : ℕ) → (if nat_lt k 16 then new task k else 0) ≡ (if those task k then v k else (if nat_lt k 16 then old task k else 0))
registers old new those v low h task k = elim (cases_lt k 16) [ inl x ↦ within x | inr x ↦ beyond x ] where
  within : k < 16 → (if nat_lt k 16 then new task k else 0) ≡ (if those task k then v k else (if nat_lt k 16 then old task k else 0))
  within x =
      let e : nat_lt k 16 ≡ true = lt-ltb k 16 x in
      cond-in (nat_lt k 16) (new task k) 0 e ∙ h task k x ∙ ap (λ (z : ℕ). if those task k then v k else z) (sym (cond-in (nat_lt k 16) (old task k) 0 e))

  beyond : 16 ≤ k → (if nat_lt k 16 then new task k else 0) ≡ (if those task k then v k else (if nat_lt k 16 then old task k else 0))
  beyond x =
      let e : nat_lt k 16 ≡ false = le-ltb k 16 x in
      cond-out (nat_lt k 16) (new task k) 0 e ∙ sym (cond-out (those task k) (v k) (if nat_lt k 16 then old task k else 0) (low task k x) ∙ cond-out (nat_lt k 16) (old task k) 0 e)

-- a number past 15 is no register that is written
not-one : (t r : ℕ) → r < 16 → (task k : ℕ) → 16 ≤ k → ((task == t) && (k == r)) ≡ false
not-one t r low task k x = go (k == r) refl where
  go : (c : Bool) → (k == r) ≡ c → ((task == t) && (k == r)) ≡ false
  go true e = absurd (omega (arith, eqb-true k r e, x, low))
  go false e = and-false (task == t) (k == r) e

not-among : (t first : ℕ) → first + 4 ≤ 16 → (task k : ℕ) → 16 ≤ k → ((task == t) && inside k (record { start = first; len = 4 })) ≡ false
not-among t first high task k x = go (inside k (record { start = first; len = 4 })) refl where
  go : (c : Bool) → inside k (record { start = first; len = 4 }) ≡ c → ((task == t) && inside k (record { start = first; len = 4 })) ≡ false
  go true e = absurd (let within = among-four first k e in omega (arith, within.1, x, high))
  go false e = and-false (task == t) (inside k (record { start = first; len = 4 })) e

-- a walk whose tasks and blank elements are others
abbrev pub walk_with_tasks : Walk → Tasks → ℕ → Walk
walk_with_tasks w tasks spare = record w { state = record w.state { tasks = tasks }; spare = spare }

-- the tasks are these now
module _ (p : Parts) (e : Store) (q : Tree) (now : Tasks) (new : IsTaskTree e q)
    (moved : Moves p.elements e (λ i. times i (TaskTree.owned p.elements p.tasks)) (λ i. times i (TaskTree.owned e q))) (as-many : made_and_aside e ≡ made_and_aside p.elements)
    (is-current : current q ≡ now.current) (parents : (task : ℕ) → parent e q task ≡ now.parents task)
    (words : (task k : ℕ) → (if nat_lt k 16 then word e q task k else 0) ≡ now.words task k) where
  abbrev t : Parts
  t = record p { elements = e; tasks = q }

  module _ (given : List PageFrame) (parked : Head) (k : StandsWith p parked) where
    tasks-now : (kept : ℕ) → walk_of t given parked kept ≡ walk_with_tasks (walk_of p given parked kept) now (e.spare - kept)
    tasks-now kept =
        let u = tasks-pages p parked k e q moved new in
        walk-by-places (walk_of t given parked kept) (walk_with_tasks (walk_of p given parked kept) now (e.spare - kept))
        is-current parents words
        (tasks-subpools p parked k e q moved new).same u.unassigned
        (λ a. ap (λ (z : Bool). if z then None else byte_at p.region a) (u.unassigned (a / 4096)))
        (λ a. ap (λ (z : Bool). if z then byte_at p.region a else None) (u.unassigned (a / 4096)))
        (λ a. refl) (tasks-parked p parked k e q moved new).same refl

    pub tasks-exchanged : (r : Record)
        → ((kept : ℕ) → kept ≤ p.elements.spare → Fits (walk_of p given parked kept) r
        → (kept ≤ e.spare) × (walk_with_tasks (walk_of p given parked kept) now (e.spare - kept) ≡ step (walk_of p given parked kept) r))
        → Exchanges p t given given parked parked r
    tasks-exchanged r h = record {
      stands = tasks-stand p parked k e q moved new;
      moves = tasks-move p parked k e q moved new;
      as_many = as-many;
      steps = λ kept le fits. (let s = h kept le fits in (s.0, tasks-now kept ∙ s.1));
      out = refl;
      tables = tables-same p.region;
      frames = record { spare = refl; made = refl };
      places = λ places. places;
    }

-- a register
module _ (p : Parts) (e : Store) (r : RegisterRecord) (low : r.register < 16) (new : IsTaskTree e p.tasks)
    (parents : (task : ℕ) → parent e p.tasks task ≡ parent p.elements p.tasks task)
    (words : (task k : ℕ) → k < 16 → word e p.tasks task k ≡ (if (task == r.task) && (k == r.register) then r.word else word p.elements p.tasks task k))
    (owned : Leaves p.elements e (TaskTree.owned p.elements p.tasks) (TaskTree.owned e p.tasks)) (spares : e.spare ≡ p.elements.spare) where
  abbrev with-register : Tasks
  with-register = record (tasks_of p) { words = λ task k. if (task == r.task) && (k == r.register) then r.word else (tasks_of p).words task k }

  pub register-exchanged : (given : List PageFrame) (parked : Head) → StandsWith p parked → Exchanges p (record p { elements = e }) given given parked parked (Register r)
  register-exchanged given parked k =
      tasks-exchanged p e p.tasks with-register new (moves-of p.elements e (TaskTree.owned p.elements p.tasks) (TaskTree.owned e p.tasks) owned) owned.as_many
      refl parents
      (registers (λ task n. word p.elements p.tasks task n) (λ task n. word e p.tasks task n) (λ task n. (task == r.task) && (n == r.register)) (λ n. r.word) (not-one r.task r.register low) words)
      given parked k (Register r) (λ kept le fits. (omega (arith, le, spares), ap (walk_with_tasks (walk_of p given parked kept) with-register) (ap (λ (z : ℕ). z - kept) spares)))

-- four registers
module _ (p : Parts) (e : Store) (r : RegistersRecord) (high : r.first + 4 ≤ 16) (new : IsTaskTree e p.tasks)
    (parents : (task : ℕ) → parent e p.tasks task ≡ parent p.elements p.tasks task)
    (words : FirstWritten (λ task k. word p.elements p.tasks task k) (λ task k. word e p.tasks task k) r.task r.first r.words 4)
    (owned : Leaves p.elements e (TaskTree.owned p.elements p.tasks) (TaskTree.owned e p.tasks)) (spares : e.spare ≡ p.elements.spare) where
  abbrev with-registers : Tasks
  with-registers =
      record (tasks_of p) {
        words = λ task k.
            if (task == r.task) && inside k (record { start = r.first; len = 4 }) then slice_index_or r.words (k - r.first) 0 else (tasks_of p).words task k;
      }

  pub registers-exchanged : (given : List PageFrame) (parked : Head) → StandsWith p parked → Exchanges p (record p { elements = e }) given given parked parked (Registers r)
  registers-exchanged given parked k =
      tasks-exchanged p e p.tasks with-registers new (moves-of p.elements e (TaskTree.owned p.elements p.tasks) (TaskTree.owned e p.tasks) owned) owned.as_many
      refl parents
      (registers (λ task n. word p.elements p.tasks task n) (λ task n. word e p.tasks task n) (λ task n. (task == r.task) && inside n (record { start = r.first; len = 4 }))
      (λ n. slice_index_or r.words (n - r.first) 0) (not-among r.task r.first high) words)
      given parked k (Registers r) (λ kept le fits. (omega (arith, le, spares), ap (walk_with_tasks (walk_of p given parked kept) with-registers) (ap (λ (z : ℕ). z - kept) spares)))

-- A task that has no words has none of another's words either.
module _ (old new : ℕ → ℕ → ℕ) (t : ℕ) (zeros : (k : ℕ) → (if nat_lt k 16 then old t k else 0) ≡ 0)
    (h : (task k : ℕ) → k < 16 → new task k ≡ (if task == t then 0 else old task k)) where
  no-words : (task k : ℕ) → k < 16 → (c : Bool) → (task == t) ≡ c → new task k ≡ old task k
  no-words task k l true e =
      h task k l ∙ cond-in (task == t) 0 (old task k) e ∙ sym (zeros k) ∙ cond-in (nat_lt k 16) (old t k) 0 (lt-ltb k 16 l) ∙ ap (λ (z : ℕ). old z k) (sym (eqb-true task t e))
  no-words task k l false e = h task k l ∙ cond-out (task == t) 0 (old task k) e

  pub words-stay : (task k : ℕ) → (if nat_lt k 16 then new task k else 0) ≡ (if nat_lt k 16 then old task k else 0)
  words-stay task k = go (nat_lt k 16) refl where
    go : (c : Bool) → nat_lt k 16 ≡ c → (if c then new task k else 0) ≡ (if c then old task k else 0)
    go true e = no-words task k (ltb-true k 16 e) (task == t) refl
    go false e = refl

-- a task that is attached or removed
module _ (p : Parts) (e : Store) (q : Tree) (task under : ℕ) (zeros : (k : ℕ) → (tasks_of p).words task k ≡ 0) (new : IsTaskTree e q)
    (is-current : current q ≡ current p.tasks)
    (words : (x k : ℕ) → k < 16 → word e q x k ≡ (if x == task then 0 else word p.elements p.tasks x k))
    (owned : Leaves p.elements e (TaskTree.owned p.elements p.tasks) (TaskTree.owned e q)) where
  abbrev task_record : Bool → TaskRecord
  task_record present = record { task = task; parent = under; present = present }

  abbrev with-parents : Bool → Tasks
  with-parents present = record (tasks_of p) { parents = λ x. if x == task then (if present then Some under else None) else (tasks_of p).parents x }

  came-or-went : (present : Bool) → ((x : ℕ) → parent e q x ≡ (with-parents present).parents x)
      → ((kept : ℕ) → kept ≤ p.elements.spare → 4 ≤ (p.elements.spare - kept) + (if present then 0 else 4)
      → (kept ≤ e.spare) × (e.spare - kept ≡ (if present then (p.elements.spare - kept) - 4 else (p.elements.spare - kept) + 4)))
      → (given : List PageFrame) (parked : Head) → StandsWith p parked
      → Exchanges p (record p { elements = e; tasks = q }) given given parked parked (Task (task_record present))
  came-or-went present parents spares given parked k =
      tasks-exchanged p e q (with-parents present) new (moves-of p.elements e (TaskTree.owned p.elements p.tasks) (TaskTree.owned e q) owned) owned.as_many
      is-current parents (words-stay (λ x n. word p.elements p.tasks x n) (λ x n. word e q x n) task zeros words)
      given parked k (Task (task_record present))
      (λ kept le fits. (let s = spares kept le fits.room in (s.0, ap (walk_with_tasks (walk_of p given parked kept) (with-parents present)) s.1)))

  pub task-came : ((x : ℕ) → parent e q x ≡ parents_with (parent p.elements p.tasks) task under x) → e.spare + 4 ≡ p.elements.spare
      → (given : List PageFrame) (parked : Head) → StandsWith p parked
      → Exchanges p (record p { elements = e; tasks = q }) given given parked parked (Task (task_record true))
  task-came parents spares = came-or-went true parents (λ kept le room. (omega (arith, spares, le, room), omega (arith, spares, le, room)))

  pub task-went : ((x : ℕ) → parent e q x ≡ (if x == task then None else parent p.elements p.tasks x)) → e.spare ≡ p.elements.spare + 4
      → (given : List PageFrame) (parked : Head) → StandsWith p parked
      → Exchanges p (record p { elements = e; tasks = q }) given given parked parked (Task (task_record false))
  task-went parents spares = came-or-went false parents (λ kept le room. (omega (arith, spares, le), omega (arith, spares, le)))

pub task-as : (r : TaskRecord) (v : Bool) → r.present ≡ v → Task (record { task = r.task; parent = r.parent; present = v }) ≡ Task r
task-as r v e = λ i. Task (record { task = r.task; parent = r.parent; present = sym e i })
