use Rattle.std.proofs.Common.{◌≡◌, ℕ, ◌-◌, ◌<◌, ◌≤◌, true}
use Rattle.storage_swap.specs.Storage.{state_of}
use Rattle.cell_plans.specs.Areas.{first_areas}
use Rattle.cell_plans.specs.Emptied.{freed}
use Rattle.cell_plans.proofs.emptied.is_free.Given as goal

abbrev pub invariant-loop-doubleword : goal.invariant-loop-doubleword
invariant-loop-doubleword l = record {
  from : l.fn.area.start ≤ l.doubleword;
  each : (d : ℕ) → l.fn.area.start ≤ d → d < l.doubleword → (freed (state_of l.storage).subpools l.subpool (first_areas (state_of l.storage) l.given)).free l.subpool d ≡ true;
}

abbrev pub decreases-loop-doubleword : goal.decreases-loop-doubleword
decreases-loop-doubleword l = l.past - l.doubleword
