use Rattle.std.proofs.Common.{◌-◌, length}
use Rattle.run_set.specs.RunSet.{place_index}
use Rattle.subpool_storage.specs.Extents.{extents}
use Rattle.storage_swap.specs.Storage.{state_of}
use Rattle.task_plans.proofs.Walks.{ExtentsLead}
use Rattle.task_plans.proofs.end.push_extents.Given as goal

abbrev pub invariant-loop-run : goal.invariant-loop-run
invariant-loop-run l = ExtentsLead (extents (state_of l.fn.storage).subpools l.fn.subpool) l.fn.storage l.fn.builder l.storage l.builder l.extents l.place

abbrev pub decreases-loop-run : goal.decreases-loop-run
decreases-loop-run l = length (extents (state_of l.fn.storage).subpools l.fn.subpool) - place_index l.place
