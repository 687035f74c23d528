-- Walks over the tasks that end: level by level, and of each level task by task.
use Rattle.std.proofs.Common.{◌≡◌, ℕ, ◌+◌, ◌-◌, ◌<◌, ◌≤◌, false, List, [], ◌∷◌, ◌++◌, sym, ap, ◌∙◌, arith}
use Rattle.std.specs.Prelude.{filter, map, unwrap_or}
use Rattle.std.specs.List.{flat_map, range_with_len}
use Rattle.std.proofs.lemmas.Grind.{flat_map-append}
use Rattle.storage_changes.specs.declared.record.Record.{Record}
use Rattle.storage_changes.specs.declared.record.Record.TheVariants.{Task}
use Rattle.storage_changes.specs.State.{StorageState}
use Rattle.storage_changes.specs.Ending.{ended_below, ended_from, ended_level, ended_records, is_below_by, cleared_quarter}
use Rattle.storage_swap.specs.declared.storage.Parts.{Parts}
use Rattle.storage_swap.specs.Storage.{state_of}
use Rattle.storage_swap.specs.declared.builder.ChangeBuilder.{ChangeBuilder}
use Rattle.storage_swap.proofs.BuilderLemmas.{Leads}
use Rattle.task_plans.proofs.Climbs.{level_next}
use Rattle.task_plans.proofs.Rests.{run_next}
use Rattle.task_plans.proofs.Steps.{Next, next_is, next_of, last_of}
use Rattle.task_plans.proofs.Walks.{passed_first}

-- Of the records of the tasks that end, those of the levels that aren't done are left.
pub record LevelsLead (top levels done : ℕ) (s : Parts) (a : ChangeBuilder) (t : Parts) (b : ChangeBuilder) : Type 0 where
  pub leads : Leads s a (flat_map (ended_records (state_of s)) (ended_below (state_of s).tasks.parents top)) t b (flat_map (ended_records (state_of s)) (ended_from (state_of s).tasks.parents top (levels - done)))

module _ {top levels done : ℕ} {s t : Parts} {a b : ChangeBuilder} (w : LevelsLead top levels done s a t b) where
  abbrev all : List Record
  all = flat_map (ended_records (state_of s)) (ended_below (state_of s).tasks.parents top)

  abbrev level : ℕ → StorageState → List Record
  level n m = flat_map (ended_records m) (ended_level m.tasks.parents top n)

  abbrev later : List Record
  later = flat_map (ended_records (state_of s)) (ended_from (state_of s).tasks.parents top (levels - (done + 1)))

  pub level_left : done < levels → Next s a all t b (level (levels - done) (state_of t)) later
  level_left less =
      let m = state_of s in
      next_of w.leads (level (levels - done)) later
      (ap (flat_map (ended_records m)) (level_next m.tasks.parents top levels done less)
      ∙ flat_map-append (ended_records m) (ended_level m.tasks.parents top (levels - done)) (ended_from m.tasks.parents top (levels - (done + 1))))

  pub top_left : levels ≤ done → Next s a all t b (level 0 (state_of t)) []
  top_left high =
      let none : levels - done ≡ 0 = omega (arith, high) in
      last_of w.leads (level 0) (ap (λ n. flat_map (ended_records (state_of s)) (ended_from (state_of s).tasks.parents top n)) none)

-- Of the records of a level's tasks, those from the task on are left.
pub record LevelLeads (top steps task : ℕ) (s : Parts) (a : ChangeBuilder) (t : Parts) (b : ChangeBuilder) : Type 0 where
  pub leads : Leads s a (flat_map (ended_records (state_of s)) (ended_level (state_of s).tasks.parents top steps)) t b
      (flat_map (ended_records (state_of s)) (filter (is_below_by (state_of s).tasks.parents top steps) (range_with_len task (65 - task))))

module _ {top steps task : ℕ} {s t : Parts} {a b : ChangeBuilder} (w : LevelLeads top steps task s a t b) where
  abbrev each : List ℕ → StorageState → List Record
  each tasks m = flat_map (ended_records m) (filter (is_below_by m.tasks.parents top steps) tasks)

  abbrev others : List ℕ
  others = range_with_len (task + 1) (65 - (task + 1))

  pub task_left : task < 65 → Next s a (flat_map (ended_records (state_of s)) (ended_level (state_of s).tasks.parents top steps)) t b (each (task ∷ []) (state_of t)) (each others (state_of s))
  task_left less =
      let m = state_of s in
      next_of w.leads (each (task ∷ [])) (each others m)
      (ap (λ tasks. each tasks m) (run_next task 65 less) ∙ passed_first (is_below_by m.tasks.parents top steps) (ended_records m) task others)

-- Of the records of a task that ends, those of its registers from the quarter on are left, and its own.
pub record QuartersLead (task quarter : ℕ) (s : Parts) (a : ChangeBuilder) (t : Parts) (b : ChangeBuilder) : Type 0 where
  pub leads : Leads s a (ended_records (state_of s) task) t b (map (cleared_quarter task) (range_with_len quarter (4 - quarter)) ++ Task (record { task = task; parent = unwrap_or ((state_of s).tasks.parents task) 0; present = false }) ∷ [])

module _ {task quarter : ℕ} {s t : Parts} {a b : ChangeBuilder} (w : QuartersLead task quarter s a t b) where
  abbrev zeros : List ℕ → List Record
  zeros quarters = map (cleared_quarter task) quarters

  abbrev own : ℕ → List Record
  own parent = Task (record { task = task; parent = parent; present = false }) ∷ []

  abbrev parent : ℕ
  parent = unwrap_or ((state_of s).tasks.parents task) 0

  pub quarter_left : quarter < 4 → Next s a (ended_records (state_of s) task) t b (zeros (quarter ∷ [])) (zeros (range_with_len (quarter + 1) (4 - (quarter + 1))) ++ own parent)
  quarter_left less =
      next_is w.leads (zeros (quarter ∷ [])) (zeros (range_with_len (quarter + 1) (4 - (quarter + 1))) ++ own parent) (ap (λ quarters. zeros quarters ++ own parent) (run_next quarter 4 less))

  pub own_left : 4 ≤ quarter → (its : ℕ) → its ≡ parent → Next s a (ended_records (state_of s) task) t b (own its) []
  own_left high its is =
      let none : 4 - quarter ≡ 0 = omega (arith, high) in
      next_is w.leads (own its) [] (ap (λ n. zeros (range_with_len quarter n) ++ own parent) none ∙ ap own (sym is))
