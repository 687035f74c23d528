-- Plans of each kind, as plans of a service.
use Rattle.std.proofs.Common.{◌≡◌, ℕ, ◌+◌, ◌*◌, ◌≤◌, Bool, None, Result, Ok, Err, IfOk, ap, sym, subst, arith}
use Rattle.std.proofs.Props.{props}
use mathlib.Core.Logic.{∥∥₁_elim, ∥∥₁_map}
use Rattle.vsm_model.specs.declared.causes.Cause.{Cause}
use Rattle.vsm_model.specs.declared.limits.Settings.{Settings}
use Rattle.vsm_model.specs.declared.replies.Reply.{Reply}
use Rattle.vsm_model.specs.declared.replies.Reply.TheVariants.{Stored}
use Rattle.vsm_model.specs.Services.{Service}
use Rattle.vsm_model.specs.State.{State}
use Rattle.vsm_model.specs.Standing as outcome
use Rattle.vsm_model.specs.Standing.{Outcome, Accepted, Refused}
use Rattle.vsm_model.specs.Step.{step}
use Rattle.storage_changes.specs.State.{StorageState}
use Rattle.storage_changes.specs.Changes.{Change}
use Rattle.storage_changes.specs.Meaning.{model_of}
use Rattle.storage_plans.specs.declared.plan.StoragePlan.{StoragePlan}
use Rattle.storage_plans.specs.Plans.{CarriesOut, IsPlanned as IsStoragePlanned}
use Rattle.storage_plans.specs.declared.store.StorePlan.{StorePlan}
use Rattle.storage_plans.specs.StorePlans.{IsStorePlanned}
use Rattle.storage_plans.proofs.Assigning.{none_assigned}
use Rattle.task_plans.specs.declared.attach.AttachPlan.{AttachPlan}
use Rattle.task_plans.specs.declared.end.EndPlan.{EndPlan}
use Rattle.task_plans.specs.TaskPlans.{IsAttachPlanned, IsEndPlanned}
use Rattle.cell_plans.specs.declared.build.BuildPlan.{BuildPlan}
use Rattle.cell_plans.specs.declared.delete.DeletePlan.{DeletePlan}
use Rattle.cell_plans.specs.CellPlans.{IsBuildPlanned, IsCellPlanned, IsDeletePlanned}
use Rattle.storage_core.specs.declared.plans.Plan.TheVariants.{Storage, Store, Attach, End, Build, Delete}
use Rattle.storage_core.specs.Weight.{weight, cells_weight}
use Rattle.storage_core.proofs.FramesBrought.{only_by}
use Rattle.storage_core.specs.Planned.{Assigns, CanCarryOut, HasRecords, IsAccepted, IsPlanned, change_for, extents_leaving, reply_of, storage_elements}

-- an outcome is accepted in at most one way
accepted-prop : {S R C : Type 0} (o : Outcome S R C) → IsProp (outcome.IsAccepted o)
accepted-prop (Accepted t r) = hlevel props
accepted-prop (Refused cause) = hlevel props

module _ (settings : Settings) (names_full : Bool) (m : StorageState) (x : Service) where
  -- a service that is accepted by some change isn't refused
  accepts_by : (d : Change) (reply : Reply) → ∥ IsAccepted settings names_full m x d reply ∥₁
      → outcome.IsAccepted (step settings names_full (model_of m) x)
  accepts_by d reply planned =
      let o : Outcome State Reply Cause = step settings names_full (model_of m) x in
      ∥∥₁_elim planned (accepted-prop o)
      (λ k.
      let P : Outcome State Reply Cause → Type 0 = λ z. outcome.IsAccepted z in
      subst P (sym k.accepted) tt)

  storage_accepted : (plan : StoragePlan) → ∥ IsAccepted settings names_full m x (change_for m 0 (Storage plan)) plan.reply ∥₁ → HasRecords m plan
      → storage_elements m plan ≤ 32 + 8 * weight m x → Assigns m (change_for m 0 (Storage plan)) plan.fresh → CanCarryOut settings names_full m x (Storage plan)
  storage_accepted plan planned has light assigned = record {
    accepts = accepts_by (change_for m 0 (Storage plan)) plan.reply planned;
    accepted = λ id _. planned;
    can = has;
    light = light;
    assigned = λ id. assigned;
    only = λ id _. only_by settings names_full m x id (Storage plan) plan.reply planned;
  }

  pub storage_ok : (r : Result StoragePlan Cause) (plan : StoragePlan) → r ≡ Ok plan → IsStoragePlanned settings names_full m x r
      → IfOk r (λ p. extents_leaving m.subpools p.emptied ≤ weight m x) → IsPlanned settings names_full m x (Ok (Storage plan))
  storage_ok r plan is h few =
      let leaves : extents_leaving m.subpools plan.emptied ≤ weight m x = subst (λ z. IfOk z (λ (p : StoragePlan). extents_leaving m.subpools p.emptied ≤ weight m x)) is few in
      let planned : ∥ CarriesOut settings names_full m x plan ∥₁ = subst (IsStoragePlanned settings names_full m x) is h in
      storage_accepted plan
      (∥∥₁_map planned (λ k. record { accepted = k.accepted; fits = k.fits; sound = k.sound }))
      (let has : HasRecords m plan = ∥∥₁_elim planned (hlevel props) (λ k. record { few = omega (arith, k.few); range = k.range; there = k.there; unassigned = k.unassigned }) in has)
      (∥∥₁_elim planned (hlevel props) (λ k. omega (arith, k.few, leaves)))
      (let its : Assigns m (change_for m 0 (Storage plan)) plan.fresh = ∥∥₁_elim planned (hlevel props) (λ k. k.assigned) in its)

  pub storage_err : (r : Result StoragePlan Cause) (cause : Cause) → r ≡ Err cause → IsStoragePlanned settings names_full m x r
      → IsPlanned settings names_full m x (Err cause)
  storage_err r cause is h = subst (IsStoragePlanned settings names_full m x) is h

  pub store_ok : (r : Result StorePlan Cause) (plan : StorePlan) → r ≡ Ok plan → IsStorePlanned settings names_full m x r
      → IsPlanned settings names_full m x (Ok (Store plan))
  store_ok r plan is h =
      let planned : IsStorePlanned settings names_full m x (Ok plan) = subst (IsStorePlanned settings names_full m x) is h in
      record {
        accepts = accepts_by (change_for m 0 (Store plan)) Stored planned.0;
        accepted = λ id _. planned.0;
        can = planned.1;
        light = omega arith;
        assigned = λ id. none_assigned _;
        only = λ id _. only_by settings names_full m x id (Store plan) Stored planned.0;
      }

  pub store_err : (r : Result StorePlan Cause) (cause : Cause) → r ≡ Err cause → IsStorePlanned settings names_full m x r
      → IsPlanned settings names_full m x (Err cause)
  store_err r cause is h = subst (IsStorePlanned settings names_full m x) is h

  pub attach_ok : (r : Result AttachPlan Cause) (plan : AttachPlan) → r ≡ Ok plan → IsAttachPlanned settings names_full m x r
      → IsPlanned settings names_full m x (Ok (Attach plan))
  attach_ok r plan is h =
      let planned : IsAttachPlanned settings names_full m x (Ok plan) = subst (IsAttachPlanned settings names_full m x) is h in
      record {
        accepts = accepts_by (change_for m 0 (Attach plan)) (reply_of (Attach plan)) planned.0;
        accepted = λ id _. planned.0;
        can = planned.1;
        light = omega (arith, planned.2);
        assigned = λ id. none_assigned _;
        only = λ id _. only_by settings names_full m x id (Attach plan) (reply_of (Attach plan)) planned.0;
      }

  pub attach_err : (r : Result AttachPlan Cause) (cause : Cause) → r ≡ Err cause → IsAttachPlanned settings names_full m x r
      → IsPlanned settings names_full m x (Err cause)
  attach_err r cause is h = subst (IsAttachPlanned settings names_full m x) is h

  pub end_ok : (r : Result EndPlan Cause) (plan : EndPlan) → r ≡ Ok plan → IsEndPlanned settings names_full m x r
      → IsPlanned settings names_full m x (Ok (End plan))
  end_ok r plan is h =
      let planned : IsEndPlanned settings names_full m x (Ok plan) = subst (IsEndPlanned settings names_full m x) is h in
      record {
        accepts = accepts_by (change_for m 0 (End plan)) plan.reply planned.0;
        accepted = λ id _. planned.0;
        can = planned.1;
        light = omega (arith, planned.2);
        assigned = λ id. none_assigned _;
        only = λ id _. only_by settings names_full m x id (End plan) plan.reply planned.0;
      }

  pub end_err : (r : Result EndPlan Cause) (cause : Cause) → r ≡ Err cause → IsEndPlanned settings names_full m x r
      → IsPlanned settings names_full m x (Err cause)
  end_err r cause is h = subst (IsEndPlanned settings names_full m x) is h

  -- a plan that empties no subpool and has few blank elements
  cell_light : (plan : StoragePlan) → plan.emptied ≡ None → plan.blanks ≤ 7 + 8 * cells_weight m x → storage_elements m plan ≤ 32 + 8 * weight m x
  cell_light plan none few = omega (arith, ap (extents_leaving m.subpools) none, few)

  pub cell_ok : (r : Result StoragePlan Cause) (plan : StoragePlan) → r ≡ Ok plan → IsCellPlanned settings names_full m x r
      → IsPlanned settings names_full m x (Ok (Storage plan))
  cell_ok r plan is h =
      let planned : IsCellPlanned settings names_full m x (Ok plan) = subst (IsCellPlanned settings names_full m x) is h in
      storage_accepted plan planned.0 planned.1 (cell_light plan planned.2.none planned.2.few) planned.3

  pub cell_err : (r : Result StoragePlan Cause) (cause : Cause) → r ≡ Err cause → IsCellPlanned settings names_full m x r
      → IsPlanned settings names_full m x (Err cause)
  cell_err r cause is h = subst (IsCellPlanned settings names_full m x) is h

  pub build_ok : (r : Result BuildPlan Cause) (plan : BuildPlan) → r ≡ Ok plan → IsBuildPlanned settings names_full m x r
      → IsPlanned settings names_full m x (Ok (Build plan))
  build_ok r plan is h =
      let planned : IsBuildPlanned settings names_full m x (Ok plan) = subst (IsBuildPlanned settings names_full m x) is h in
      record { accepts = planned.0; accepted = λ id free. planned.1 id free.0 free.1; can = planned.2; light = omega (arith, planned.3); assigned = planned.4; only = λ id free. only_by settings names_full m x id (Build plan) plan.reply (planned.1 id free.0 free.1) }

  pub build_err : (r : Result BuildPlan Cause) (cause : Cause) → r ≡ Err cause → IsBuildPlanned settings names_full m x r
      → IsPlanned settings names_full m x (Err cause)
  build_err r cause is h = subst (IsBuildPlanned settings names_full m x) is h

  pub delete_ok : (r : Result DeletePlan Cause) (plan : DeletePlan) → r ≡ Ok plan → IsDeletePlanned settings names_full m x r
      → IsPlanned settings names_full m x (Ok (Delete plan))
  delete_ok r plan is h =
      let planned : IsDeletePlanned settings names_full m x (Ok plan) = subst (IsDeletePlanned settings names_full m x) is h in
      record {
        accepts = accepts_by (change_for m 0 (Delete plan)) (reply_of (Delete plan)) planned.0;
        accepted = λ id _. planned.0;
        can = planned.1;
        light = omega (arith, planned.2);
        assigned = λ id. none_assigned _;
        only = λ id _. only_by settings names_full m x id (Delete plan) (reply_of (Delete plan)) planned.0;
      }

  pub delete_err : (r : Result DeletePlan Cause) (cause : Cause) → r ≡ Err cause → IsDeletePlanned settings names_full m x r
      → IsPlanned settings names_full m x (Err cause)
  delete_err r cause is h = subst (IsDeletePlanned settings names_full m x) is h
