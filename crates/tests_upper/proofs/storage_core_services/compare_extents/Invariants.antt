use Rattle.storage_core.specs.Walks.{IsExtentPlace}
use Rattle.tests_upper.proofs.storage_core_services.compare_extents.Given as goal

abbrev pub invariant-loop-i : goal.invariant-loop-i
invariant-loop-i g l = IsExtentPlace l.storage l.fn.subpool l.place l.i
