use Rattle.storage_core.specs.Walks.{IsFreeAreaPlace}
use Rattle.tests_upper.proofs.storage_core_services.compare_free_areas.Given as goal

abbrev pub invariant-loop-i : goal.invariant-loop-i
invariant-loop-i g l = IsFreeAreaPlace l.storage l.fn.subpool l.place l.i
