-- How many elements the change of a deleted cell pool has.
use Rattle.std.proofs.Common.{◌+◌, ◌≤◌, Result, Ok, Err, IfOk, arith}
use Rattle.storage_changes.specs.State.{StorageState}
use Rattle.storage_swap.specs.declared.storage.Parts.{Parts}
use Rattle.storage_swap.specs.declared.change.Change.{Change}
use Rattle.storage_swap.specs.Reserve.{Reserves}
use Rattle.cell_plans.specs.declared.delete.DeletePlan.{DeletePlan}
use Rattle.cell_plans.specs.CellPlans.{delete_change}
use Rattle.cell_plans.proofs.DeleteCounts.{delete-short}
use Rattle.storage_core.specs.declared.plans.Plan.TheVariants.{Delete}
use Rattle.storage_core.specs.Planned.{elements_needed}
use Rattle.storage_core.proofs.Counted.{reserved_count}

pub delete_few : {E : Type 0} (p t : Parts) (m : StorageState) (plan : DeletePlan) (r : Result Change E) → IfOk r (λ c. Reserves p (delete_change m plan) c t) →
    IfOk r (λ c. c.records.count + c.blanks ≤ elements_needed m (Delete plan))
delete_few p t m plan (Ok c) made = omega (arith, reserved_count p t (delete_change m plan) c made, delete-short m (m.subpools.cells plan.pool))
delete_few p t m plan (Err e) made = made
