use Rattle.storage_core.specs.Walks.{IsSubpoolPlace}
use Rattle.tests_upper.proofs.storage_core_services.count_subpools.Given as goal

abbrev pub invariant-loop-i : goal.invariant-loop-i
invariant-loop-i g l = IsSubpoolPlace l.storage l.place
