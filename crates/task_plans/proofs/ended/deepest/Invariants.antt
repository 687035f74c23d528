use Rattle.std.proofs.Common.{◌≤◌}
use Rattle.storage_swap.specs.Storage.{state_of}
use Rattle.task_plans.proofs.Levels.{AreWithin}
use Rattle.task_plans.proofs.ended.deepest.Given as goal

abbrev pub invariant-loop-task : goal.invariant-loop-task
invariant-loop-task l = record {
  few : l.most ≤ 63;
  within : AreWithin (state_of l.storage).tasks.parents l.tree.top l.most l.task;
}
