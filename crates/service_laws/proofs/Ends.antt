-- DETACH and ENDTASK leave a well-formed state well-formed.
use Rattle.std.proofs.Common.{◌≡◌, ℕ, zero, suc, true, false, not, ◌==◌, Option, Some, None, [], ◌∷◌, is_some, refl, sym, ◌∙◌, ap, subst, arith, inl, inr, true≢false}
use Rattle.std.specs.Prelude.{unwrap_or}
use Rattle.std.proofs.lemmas.Bool.{or_cases, or_right, eqb-true, eq-eqb, cases_Bool, both_ways, not-false}
use Rattle.vsm_model.specs.declared.causes.Cause.TheVariants.{NoTask, NotParent, HasSubtask}
use Rattle.vsm_model.specs.declared.limits.Settings.{Settings}
use Rattle.vsm_model.specs.Search.{holds}
use Rattle.vsm_model.specs.State.{State, is_task}
use Rattle.vsm_model.specs.Ending.{climbs, is_child, is_in_subtree, has_subtask}
use Rattle.vsm_model.specs.Causes.{first_cause}
use Rattle.vsm_model.specs.Tasks.{detach_causes, detached, end_task_causes, ended}
use Rattle.vsm_model.specs.WellFormed.{TasksAreSound, IsWellFormed}
use Rattle.vsm_model.proofs.Chosen.{past}
use Rattle.vsm_model.proofs.Least.{all_pass_none}
use Rattle.service_laws.proofs.Subtrees.{from_root, no_cycle, zero_is_none, subtree_is_all_below}
use Rattle.service_laws.proofs.Options.{held}
use Rattle.service_laws.proofs.Ending.{pages_sound, sight_sound, tasks_sound}
use Rattle.service_laws.proofs.EndedPools.{cell_pools_sound}
use Rattle.service_laws.proofs.Turned.{turned, turned_is_well_formed}

same_parent : {m n : ℕ} → ◌≡◌ {A = Option ℕ} (Some m) (Some n) → m ≡ n
same_parent e = cc

-- what leads to task 1 is a task
pub comes : (s : State) → TasksAreSound s → (n task : ℕ) → climbs s.parents n 1 task ≡ true → is_task s task ≡ true
comes s w zero task e = ap (λ t. is_some (s.parents t)) (eqb-true task 1 e) ∙ ap is_some w.root
comes s w (suc n) task e =
    elim (or_cases (task == 1) (holds (climbs s.parents n 1) (s.parents task)) e) [
      | inl is ↦ ap (λ t. is_some (s.parents t)) (eqb-true task 1 is) ∙ ap is_some w.root
      | inr up ↦ let (p, at, _) = held (climbs s.parents n 1) (s.parents task) up in ap is_some at
    ]

module _ (s : State) (w : TasksAreSound s) (task : ℕ) (there : is_task s task ≡ true) (child : is_child s s.current task ≡ true) where
  pub closed_below : (t p : ℕ) → s.parents t ≡ Some p → is_in_subtree s task p ≡ true → is_in_subtree s task t ≡ true
  closed_below t p at e =
      subtree_is_all_below s w 65 task t there (ap is_some at)
      (or_right (t == task) (holds (climbs s.parents 64 task) (s.parents t)) (subst (λ o. holds (climbs s.parents 64 task) o ≡ true) (sym at) e))

  pub parent_is : s.parents task ≡ Some s.current
  parent_is = let (p, at, is) = held (λ p. p == s.current) (s.parents task) child in at ∙ ap Some (eqb-true p s.current is)

  pub not_one : is_in_subtree s task 1 ≡ false
  not_one =
      elim (cases_Bool (is_in_subtree s task 1)) [
        | inl below ↦
            let one_is = eqb-true 1 task (from_root s.parents w.root (zero_is_none s w) task (w.numbered task there).0 64 below) in
            let zero_is : 0 ≡ s.current = same_parent (sym w.root ∙ ap s.parents one_is ∙ parent_is) in
            let least = (w.numbered s.current w.current_is_task).0 in
            absurd (omega (arith, zero_is, least))
        | inr is ↦ is
      ]

  pub not_now : is_in_subtree s task s.current ≡ false
  not_now =
      elim (cases_Bool (is_in_subtree s task s.current)) [
        | inl below ↦ absurd (no_cycle s.parents w.root (zero_is_none s w) task (w.numbered task there).0 s.current parent_is 64 below 64 64 s.current (w.below_root s.current w.current_is_task) below)
        | inr is ↦ is
      ]

-- without a cause the task exists, and the current one is its parent
pub detach_passes : (s : State) (task : ℕ) → first_cause (detach_causes s task) ≡ None → (is_task s task ≡ true) × (is_child s s.current task ≡ true)
detach_passes s task none =
    let first = past (not (is_task s task)) NoTask ((not (is_child s s.current task), NotParent) ∷ []) none in
    let second = past (not (is_child s s.current task)) NotParent [] first.1 in
    (not-false (is_task s task) first.0, not-false (is_child s s.current task) second.0)

pub detached_is_well_formed : (settings : Settings) (s : State) (task : ℕ) → IsWellFormed settings s → first_cause (detach_causes s task) ≡ None →
    IsWellFormed settings (detached s task).0
detached_is_well_formed settings s task w none =
    let (there, child) = detach_passes s task none in
    let closed = closed_below s w.tasks task there child in
    record {
      pages = pages_sound s (is_in_subtree s task) closed settings w.pages;
      sight = sight_sound s (is_in_subtree s task) closed w.sight;
      tasks = tasks_sound s (is_in_subtree s task) closed (not_one s w.tasks task there child) (not_now s w.tasks task there child) w.tasks;
      cell_pools = cell_pools_sound s (is_in_subtree s task) w.cell_pools;
    }

module _ (s : State) (w : TasksAreSound s) (alone : has_subtask s s.current ≡ false) where
  pub no_child : (t p : ℕ) → s.parents t ≡ Some p → (p == s.current) ≡ true → ⊥
  no_child t p at is =
      let range = w.numbered t (ap is_some at) in
      let low = range.0 in
      let high = range.1 in
      let child : is_child s s.current t ≡ true = ap (holds (λ p. p == s.current)) at ∙ is in
      true≢false (sym (ap not (all_pass_none (λ t. not (is_child s s.current t)) 1 64 t low (omega (arith, high)) (ap not child))) ∙ alone)

  pub closed_now : (t p : ℕ) → s.parents t ≡ Some p → (p == s.current) ≡ true → (t == s.current) ≡ true
  closed_now t p at is = absurd (no_child t p at is)

some_parent : (o : Option ℕ) → is_some o ≡ true → o ≡ Some (unwrap_or o 0)
some_parent None e = absurd (true≢false (sym e))
some_parent (Some p) e = refl

apart : (a b : ℕ) → (a == b) ≡ false → (b == a) ≡ false
apart a b e =
    elim (cases_Bool (b == a)) [
      | inl is ↦ absurd (both_ways (a == b) e (eq-eqb a b (sym (eqb-true b a is))))
      | inr is ↦ is
    ]

-- without a cause the current task has no subtask and isn't task 1
pub end_task_passes : (s : State) → first_cause (end_task_causes s) ≡ None → (has_subtask s s.current ≡ false) × ((s.current == 1) ≡ false)
end_task_passes s none =
    let first = past (has_subtask s s.current) HasSubtask ((s.current == 1, NotParent) ∷ []) none in
    (first.0, (past (s.current == 1) NotParent [] first.1).0)

-- its parent is then a task, and another one
pub parent_of_ended : (s : State) → TasksAreSound s → first_cause (end_task_causes s) ≡ None →
    (s.parents s.current ≡ Some (unwrap_or (s.parents s.current) 0))
    × (is_task s (unwrap_or (s.parents s.current) 0) ≡ true)
    × ((unwrap_or (s.parents s.current) 0 == s.current) ≡ false)
parent_of_ended s w none =
    let (alone, not_first) = end_task_passes s none in
    let parent : ℕ = unwrap_or (s.parents s.current) 0 in
    let at : s.parents s.current ≡ Some parent = some_parent (s.parents s.current) w.current_is_task in (
      at,
      elim (or_cases (s.current == 1) (holds (climbs s.parents 63 1) (s.parents s.current)) (w.below_root s.current w.current_is_task)) [
        | inl is ↦ absurd (both_ways (s.current == 1) not_first is)
        | inr up ↦ comes s w 63 parent (subst (λ o. holds (climbs s.parents 63 1) o ≡ true) at up)
      ],
      elim (cases_Bool (parent == s.current)) [
        | inl is ↦ absurd (no_child s w alone s.current parent at is)
        | inr is ↦ is
      ],
    )

pub ended_is_well_formed : (settings : Settings) (s : State) → IsWellFormed settings s → first_cause (end_task_causes s) ≡ None →
    IsWellFormed settings (ended s).0
ended_is_well_formed settings s w none =
    let (alone, not_first) = end_task_passes s none in
    let (at, there, other) = parent_of_ended s w.tasks none in
    let parent : ℕ = unwrap_or (s.parents s.current) 0 in
    let closed = closed_now s w.tasks alone in
    let turn = turned_is_well_formed settings s parent there w in
    record {
      pages = pages_sound (turned s parent) (λ t. t == s.current) closed settings turn.pages;
      sight = sight_sound (turned s parent) (λ t. t == s.current) closed turn.sight;
      tasks = tasks_sound (turned s parent) (λ t. t == s.current) closed (apart s.current 1 not_first) other turn.tasks;
      cell_pools = cell_pools_sound (turned s parent) (λ t. t == s.current) turn.cell_pools;
    }
