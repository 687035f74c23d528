-- RUN, and its plan on the plain machine.
use Rattle.std.proofs.Common.{◌≡◌, ℕ, ◌<◌, Bool, true, false, not, if◌then◌else◌, Some, None, sym, ◌∙◌, ap, arith}
use Rattle.std.proofs.Math.Bool.{Bool-set}
use Rattle.std.proofs.Math.Logic.{∥∥₁_elim, ∥∥₁_map}
use Rattle.std.proofs.lemmas.Bool.{false_from_ne_true}
use Rattle.vsm_model.specs.declared.causes.Cause.TheVariants.{NoTask}
use Rattle.vsm_model.specs.declared.limits.Settings.{Settings}
use Rattle.vsm_model.specs.declared.replies.Reply.{Reply}
use Rattle.vsm_model.specs.declared.replies.Reply.TheVariants.{Turn}
use Rattle.vsm_model.specs.Services.{run}
use Rattle.vsm_model.specs.Standing.{Accepted, Refused}
use Rattle.vsm_model.specs.State.{State, is_task}
use Rattle.vsm_model.specs.Step.{step, answered}
use Rattle.vsm_model.proofs.Chosen.{Stepped}
use Rattle.service_laws.proofs.TaskStays.{run_leaves_well_formed}
use Rattle.storage_changes.specs.State.{StorageState}
use Rattle.storage_changes.specs.Meaning.{model_of, IsSound}
use Rattle.storage_changes.specs.StorageActions.{run_of}
use Rattle.storage_changes.proofs.Rows.{none_fresh}
use Rattle.storage_plans.specs.declared.plan.StoragePlan.{StoragePlan}
use Rattle.storage_plans.specs.Plans.{CarriesOut}
use Rattle.storage_plans.proofs.Assigning.{none_assigned}
use Rattle.storage_plans.proofs.Carried.{carries_out}
use Rattle.storage_changes.specs.Attaching.{turn_records}
use Rattle.storage_changes.specs.TaskLaws.{TurningLeads}

module _ (settings : Settings) (names_full : Bool) (m : StorageState) (task : ℕ) where
  abbrev s : State
  s = model_of m

  by_task : (there : Bool) → is_task s task ≡ there →
      step settings names_full s (run task) ≡ answered settings s (run task) (if not there then Some NoTask else None)
  by_task there e = ap (λ b. answered settings s (run task) (if not b then Some NoTask else None)) e

  -- a number past those of tasks
  pub past_tasks : ∥ IsSound settings m ∥₁ → 64 < task → step settings names_full s (run task) ≡ Refused NoTask
  past_tasks sound high =
      let none : IsSound settings m → is_task s task ≡ false =
      λ h. false_from_ne_true (is_task s task) (λ there. absurd (omega (arith, high, (h.well_formed.tasks.numbered task there).1))) in
      by_task false (∥∥₁_elim sound (Bool-set (is_task s task) false) none)

  pub run_carried : TurningLeads → is_task s task ≡ true → ∥ IsSound settings m ∥₁ → (plan : StoragePlan) → plan.emptied ≡ None → plan.records.now.items ≡ turn_records task →
      plan.blanks ≡ 0 → plan.fresh ≡ run_of 0 0 → plan.reply ≡ Turn task → ∥ CarriesOut settings names_full m (run task) plan ∥₁
  run_carried law there sound plan emptied records blanks fresh reply =
      let after : State = record s { current = task } in
      let outcome : Reply → Stepped = λ r. Accepted after r in
      let accepted : step settings names_full s (run task) ≡ Accepted after (Turn task) = by_task true there in
      ∥∥₁_map sound (λ h.
      carries_out settings names_full m (run task) plan (turn_records task) 0 (run_of 0 0) after emptied records blanks fresh (accepted ∙ ap outcome (sym reply))
      (law settings m task h there (run_leaves_well_formed settings names_full s after task (Turn task) h.well_formed accepted))
      (omega arith) (omega arith) (none_fresh m) (none_assigned _))
