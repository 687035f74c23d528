use Rattle.storage_swap.specs.Storage.{state_of}
use Rattle.task_plans.proofs.Levels.{Walked}
use Rattle.task_plans.proofs.ended.most_steps_below.Given as goal

abbrev pub invariant-loop-done : goal.invariant-loop-done
invariant-loop-done l = Walked (state_of l.storage).tasks.parents l.tree.top l.task l.done l.above l.most
