-- DETACH and ENDTASK, and their plans on the plain machine.
use Rattle.std.proofs.Common.{◌≡◌, ◌≢◌, ℕ, zero, suc, ◌≤◌, Bool, true, false, not, ◌==◌, if◌then◌else◌, Option, Some, None, is_some, List, [], ◌∷◌, refl, sym, ◌∙◌, ap, subst, arith, inl, inr}
use Rattle.std.specs.Prelude.{unwrap_or, Ok}
use Rattle.std.proofs.Math.Logic.{∥∥₁_elim, ∥∥₁_map}
use Rattle.std.proofs.Props.{props}
use Rattle.std.proofs.lemmas.Bool.{or_cases, eqb-true, eq-eqb, ne_eqb, false_from_ne_true}
use mathlib.Core.HLevel.{Unit-prop}
use Rattle.vsm_model.specs.declared.causes.Cause.TheVariants.{HasSubtask, NoTask, NotParent}
use Rattle.vsm_model.specs.declared.limits.Settings.{Settings}
use Rattle.vsm_model.specs.declared.replies.Reply.TheVariants.{Returned, Turn}
use Rattle.vsm_model.specs.Causes.{first_cause}
use Rattle.vsm_model.specs.Ending.{climbs, is_child, is_in_subtree, has_subtask, without_tasks}
use Rattle.vsm_model.specs.Regions.{settings_valid}
use Rattle.vsm_model.specs.Registers.{with_registers}
use Rattle.vsm_model.specs.Search.{holds, is_in}
use Rattle.vsm_model.specs.Services.{detach, end_task}
use Rattle.vsm_model.specs.Standing.{Accepted, Refused}
use Rattle.vsm_model.specs.State.{State, is_task}
use Rattle.vsm_model.specs.Step.{step, answered}
use Rattle.vsm_model.specs.Tasks.{end_task_causes, ended}
use Rattle.vsm_model.specs.WellFormed.{IsWellFormed, TasksAreSound}
use Rattle.vsm_model.proofs.Chosen.{Stepped}
use Rattle.vsm_model.proofs.Least.{all_pass_from, all_pass_none}
use Rattle.service_laws.proofs.Ends.{not_one, not_now, parent_of_ended}
use Rattle.service_laws.proofs.Options.{held}
use Rattle.service_laws.proofs.TaskStays.{detach_leaves_well_formed, end_task_leaves_well_formed}
use Rattle.storage_changes.specs.NamedPools.{AreNamed}
use Rattle.storage_changes.specs.State.{StorageState}
use Rattle.storage_changes.specs.Meaning.{model_of, IsSound}
use Rattle.storage_changes.proofs.ActionCases.{same_answers}
use Rattle.storage_plans.proofs.Carried.{no_registers, register_and}
use Rattle.storage_changes.specs.Ending.{AreSubtasksFirst, CanEnd, ended_below}
use Rattle.storage_changes.specs.TaskLaws.{EndingLeads, EndsAreInOrder}
use Rattle.task_plans.specs.declared.end.EndPlan.{EndPlan}
use Rattle.task_plans.specs.TaskPlans.{end_change, IsAccepted, IsEndPlanned}
use Rattle.task_plans.proofs.Climbs.{climb_here}

-- that tasks can end has one proof at most
AreSubtasksFirst-prop : (parents : ℕ → Option ℕ) (tasks gone : List ℕ) → IsProp (AreSubtasksFirst parents gone tasks)
AreSubtasksFirst-prop parents [] gone = Unit-prop
AreSubtasksFirst-prop parents (task ∷ tasks) gone = hlevel (AreSubtasksFirst-prop parents tasks (task ∷ gone), props)

CanEnd-prop : (s : State) (ended : List ℕ) (next : ℕ) → IsProp (CanEnd s ended next)
CanEnd-prop s ended next = hlevel (AreSubtasksFirst-prop s.parents ended [], props)

-- what climbs to a task is one
task_climbs : (s : State) (top : ℕ) → is_task s top ≡ true → (steps task : ℕ) → climbs s.parents steps top task ≡ true → is_task s task ≡ true
task_climbs s top there zero task e = ap (is_task s) (eqb-true task top e) ∙ there
task_climbs s top there (suc steps) task e =
    elim (or_cases (task == top) (holds (climbs s.parents steps top) (s.parents task)) e) [
      | inl is ↦ ap (is_task s) (eqb-true task top is) ∙ there
      | inr up ↦ let (parent, at, _) = held (climbs s.parents steps top) (s.parents task) up in ap is_some at
    ]

-- the records of tasks that end lead to the service's outcome
module _ (settings : Settings) (names_full : Bool) (m : StorageState) (order : EndsAreInOrder) (law : EndingLeads) (named : AreNamed m.subpools.cells) where
  abbrev s : State
  s = model_of m

  module _ (task : ℕ) (child : s.parents task ≡ Some s.current) where
    abbrev below : List ℕ
    below = ended_below m.tasks.parents task

    there : is_task s task ≡ true
    there = ap is_some child

    is_its : is_child s s.current task ≡ true
    is_its = ap (holds (λ p. p == s.current)) child ∙ eq-eqb s.current s.current refl

    abbrev after_detach : State
    after_detach = with_registers (without_tasks s (is_in_subtree s task)) ((15, 0) ∷ [])

    detach_accepted : step settings names_full s (detach task) ≡ Accepted after_detach (Returned 0)
    detach_accepted = λ i. answered settings s (detach task) (first_cause ((not (there i), NoTask) ∷ (not (is_its i), NotParent) ∷ []))

    module _ (w : TasksAreSound s) where
      these : is_in below ≡ is_in_subtree s task
      these = λ i t. (order s task w there).1 t i

      detach_can : CanEnd s below s.current
      detach_can = record {
        order = (order s task w there).0;
        tasks = λ t e. task_climbs s task there 64 t (ap (λ (f : ℕ → Bool). f t) (sym these) ∙ e);
        later = ap (λ (f : ℕ → Bool). f 1) these ∙ not_one s w task there is_its;
        turn = w.current_is_task;
        stays = ap (λ (f : ℕ → Bool). f s.current) these ∙ not_now s w task there is_its;
      }

    abbrev detach_plan : EndPlan
    detach_plan = record { top = task; next = s.current; reply = Returned 0 }

    detach_is_accepted : settings_valid settings ≡ true → IsSound settings m → IsAccepted settings names_full m (detach task) (end_change m detach_plan) (Returned 0)
    detach_is_accepted valid sound =
        let w = sound.well_formed.tasks in
        let after : (ℕ → Bool) → State = λ f. with_registers (without_tasks s f) ((15, 0) ∷ []) in
        let same : after (is_in below) ≡ after (is_in_subtree s task) = ap after (these w) in
        let stays = detach_leaves_well_formed settings names_full s after_detach task (Returned 0) sound.well_formed detach_accepted in
        let leads = law settings m below s.current ((15, 0) ∷ []) valid sound named (detach_can w) (register_and 15 0 [] (omega arith) no_registers) (subst (IsWellFormed settings) (sym same) stays) in
        let outcome : State → Stepped = λ t. Accepted t (Returned 0) in
        record {
          accepted = detach_accepted ∙ ap outcome (sym (leads.leads ∙ same));
          fits = leads.fits;
          sound = leads.sound;
        }

    detach_is_planned : settings_valid settings ≡ true → ∥ IsSound settings m ∥₁ → IsEndPlanned settings names_full m (detach task) (Ok detach_plan)
    detach_is_planned valid sound = (
      ∥∥₁_map sound (λ h. detach_is_accepted valid h),
      record { can = ∥∥₁_elim sound (CanEnd-prop s below s.current) (λ h. detach_can h.well_formed.tasks) },
      omega arith,
    )

  pub detach_planned : (task next : ℕ) → next ≡ s.current → s.parents task ≡ Some next → settings_valid settings ≡ true → ∥ IsSound settings m ∥₁ →
      IsEndPlanned settings names_full m (detach task) (Ok (record { top = task; next = next; reply = Returned 0 }))
  detach_planned task next is child valid sound =
      subst (λ (n : ℕ). IsEndPlanned settings names_full m (detach task) (Ok (record { top = task; next = n; reply = Returned 0 }))) (sym is)
      (detach_is_planned task (child ∙ ap Some is) valid sound)

-- Whether the current task has a subtask.
module _ (settings : Settings) (names_full : Bool) (m : StorageState) where
  abbrev before : State
  before = model_of m

  by_causes : (subtask first : Bool) → has_subtask before before.current ≡ subtask → (before.current == 1) ≡ first →
      first_cause (end_task_causes before) ≡ (if subtask then Some HasSubtask else if first then Some NotParent else None)
  by_causes subtask first is_subtask is_first = λ i. first_cause ((is_subtask i, HasSubtask) ∷ (is_first i, NotParent) ∷ [])

  none_has : ((t : ℕ) → before.parents t ≢ Some before.current) → has_subtask before before.current ≡ false
  none_has none =
      ap not (all_pass_from (λ t. not (is_child before before.current t)) 1 64 (λ t low high. ap not (
      false_from_ne_true (is_child before before.current t) (λ child.
      let (p, at, is) = held (λ p. p == before.current) (before.parents t) child in
      none t (at ∙ ap Some (eqb-true p before.current is))))))

  pub has_one : (t : ℕ) → 1 ≤ t → t ≤ 64 → before.parents t ≡ Some before.current → step settings names_full before end_task ≡ Refused HasSubtask
  has_one t low high at =
      let child : is_child before before.current t ≡ true = ap (holds (λ p. p == before.current)) at ∙ eq-eqb before.current before.current refl in
      let has : has_subtask before before.current ≡ true = ap not (all_pass_none (λ t. not (is_child before before.current t)) 1 64 t low (omega (arith, high)) (ap not child)) in
      ap (answered settings before end_task) (by_causes true (before.current == 1) has refl)

  pub is_first : ((t : ℕ) → before.parents t ≢ Some before.current) → before.current ≡ 1 → step settings names_full before end_task ≡ Refused NotParent
  is_first none is = ap (answered settings before end_task) (by_causes false true (none_has none) (eq-eqb before.current 1 is))

  module _ (order : EndsAreInOrder) (law : EndingLeads) (named : AreNamed m.subpools.cells) (none : (t : ℕ) → before.parents t ≢ Some before.current) (later : before.current ≢ 1) where
    abbrev alone : List ℕ
    alone = ended_below m.tasks.parents before.current

    abbrev parent : ℕ
    parent = unwrap_or (before.parents before.current) 0

    passes : first_cause (end_task_causes before) ≡ None
    passes = by_causes false false (none_has none) (ne_eqb before.current 1 later)

    abbrev after_end : State
    after_end = without_tasks (record before { current = parent }) (λ t. t == before.current)

    end_accepted : step settings names_full before end_task ≡ Accepted after_end (Turn parent)
    end_accepted = ap (answered settings before end_task) passes

    climbs_none : (steps t : ℕ) → climbs before.parents steps before.current t ≡ true → t ≡ before.current
    climbs_none zero t e = eqb-true t before.current e
    climbs_none (suc steps) t e =
        elim (or_cases (t == before.current) (holds (climbs before.parents steps before.current) (before.parents t)) e) [
          | inl is ↦ eqb-true t before.current is
          | inr up ↦
              let (p, at, more) = held (climbs before.parents steps before.current) (before.parents t) up in
              absurd (none t (at ∙ ap Some (climbs_none steps p more)))
        ]

    module _ (w : TasksAreSound before) where
      just_it : is_in alone ≡ (λ t. t == before.current)
      just_it = λ i t. (
          (order before before.current w w.current_is_task).1 t
          ∙ same_answers (is_in_subtree before before.current t) (t == before.current)
          (λ e. eq-eqb t before.current (climbs_none 64 t e)) (λ is. climb_here before.parents before.current 64 t is)) i

      end_can : CanEnd before alone parent
      end_can =
          let its = parent_of_ended before w passes in
          record {
            order = (order before before.current w w.current_is_task).0;
            tasks = λ t e. ap (is_task before) (eqb-true t before.current (ap (λ (f : ℕ → Bool). f t) (sym just_it) ∙ e)) ∙ w.current_is_task;
            later = ap (λ (f : ℕ → Bool). f 1) just_it ∙ ne_eqb 1 before.current (λ is. later (sym is));
            turn = its.1;
            stays = ap (λ (f : ℕ → Bool). f parent) just_it ∙ its.2;
          }

    abbrev end_plan : EndPlan
    end_plan = record { top = before.current; next = parent; reply = Turn parent }

    end_is_accepted : settings_valid settings ≡ true → IsSound settings m → IsAccepted settings names_full m end_task (end_change m end_plan) (Turn parent)
    end_is_accepted valid sound =
        let w = sound.well_formed.tasks in
        let after : (ℕ → Bool) → State = λ f. without_tasks (record before { current = parent }) f in
        let same : after (is_in alone) ≡ after_end = ap after (just_it w) in
        let stays = end_task_leaves_well_formed settings names_full before after_end (Turn parent) sound.well_formed end_accepted in
        let leads = law settings m alone parent [] valid sound named (end_can w) no_registers (subst (IsWellFormed settings) (sym same) stays) in
        let outcome : State → Stepped = λ t. Accepted t (Turn parent) in
        record {
          accepted = end_accepted ∙ ap outcome (sym (leads.leads ∙ same));
          fits = leads.fits;
          sound = leads.sound;
        }

    end_is_planned : settings_valid settings ≡ true → ∥ IsSound settings m ∥₁ → IsEndPlanned settings names_full m end_task (Ok end_plan)
    end_is_planned valid sound = (
      ∥∥₁_map sound (λ h. end_is_accepted valid h),
      record { can = ∥∥₁_elim sound (CanEnd-prop before alone parent) (λ h. end_can h.well_formed.tasks) },
      omega arith,
    )

    pub end_planned : (top next : ℕ) → top ≡ before.current → next ≡ parent → settings_valid settings ≡ true → ∥ IsSound settings m ∥₁ →
        IsEndPlanned settings names_full m end_task (Ok (record { top = top; next = next; reply = Turn next }))
    end_planned top next is_top is_next valid sound =
        let plan_is : ◌≡◌ {A = EndPlan} (record { top = before.current; next = parent; reply = Turn parent }) (record { top = top; next = next; reply = Turn next }) =
        λ i. record { top = sym is_top i; next = sym is_next i; reply = Turn (sym is_next i) } in
        subst (λ (plan : EndPlan). IsEndPlanned settings names_full m end_task (Ok plan)) plan_is (end_is_planned valid sound)
