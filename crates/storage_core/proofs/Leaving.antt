-- How many extents leave by a plan, compared with the weight of its service.
use Rattle.std.proofs.Common.{◌≡◌, ℕ, ◌≤◌, None, Some, Result, Ok, Err, IfOk, ap, arith}
use Rattle.vsm_model.specs.Services.{Service, whole}
use Rattle.vsm_model.specs.Subpools.{seen_or_own}
use Rattle.storage_changes.specs.State.{StorageState}
use Rattle.storage_changes.specs.Meaning.{model_of}
use Rattle.storage_plans.specs.declared.plan.StoragePlan.{StoragePlan}
use Rattle.storage_core.specs.Planned.{extents_leaving}
use Rattle.storage_core.specs.Weight.{weight}

-- no more extents leave than the service weighs
abbrev pub LeaveFew : {E : Type 0} → StorageState → Service → Result StoragePlan E → Type 0
LeaveFew m x r = IfOk r (λ p. extents_leaving m.subpools p.emptied ≤ weight m x)

-- if no subpool is emptied
pub none_leaves : {E : Type 0} (m : StorageState) (x : Service) (r : Result StoragePlan E) → IfOk r (λ p. p.emptied ≡ None) → LeaveFew m x r
none_leaves m x (Ok plan) none = omega (arith, ap (extents_leaving m.subpools) none)
none_leaves m x (Err e) none = none

-- and if it is the one that the current task sees
pub whole_leaves : {E : Type 0} (m : StorageState) (number : ℕ) (r : Result StoragePlan E) → IfOk r (λ p. p.emptied ≡ Some (seen_or_own (model_of m) number)) → LeaveFew m (whole number) r
whole_leaves m number (Ok plan) its = omega (arith, ap (extents_leaving m.subpools) its)
whole_leaves m number (Err e) its = its
