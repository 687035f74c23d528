use Rattle.std.proofs.Common.{length}
use Rattle.storage_swap.specs.Storage.{state_of}
use Rattle.task_plans.specs.Sights.{seen_left}
use Rattle.task_plans.proofs.Walks.{Walk, removed_rows}
use Rattle.task_plans.proofs.end.push_removed.Given as goal

abbrev pub invariant-loop-seen : goal.invariant-loop-seen
invariant-loop-seen l = Walk removed_rows l.ending.tree.top l.fn.storage l.fn.builder l.storage l.builder l.place

abbrev pub decreases-loop-seen : goal.decreases-loop-seen
decreases-loop-seen l = length (seen_left (state_of l.storage) l.ending.tree.top l.place)
