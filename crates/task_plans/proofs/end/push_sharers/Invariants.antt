use Rattle.std.proofs.Common.{length}
use Rattle.subpool_storage.specs.SubpoolStorage.{sharers_left}
use Rattle.task_plans.proofs.Walks.{SharersLead}
use Rattle.task_plans.proofs.end.push_sharers.Given as goal

abbrev pub invariant-loop-task : goal.invariant-loop-task
invariant-loop-task l = SharersLead l.subpool l.fn.storage l.fn.builder l.storage l.builder l.place

abbrev pub decreases-loop-task : goal.decreases-loop-task
decreases-loop-task l = length (sharers_left l.storage.elements l.storage.subpools l.place l.subpool)
