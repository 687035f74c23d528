use Rattle.std.proofs.Common.{◌<◌, length}
use Rattle.vsm_model.specs.Search.{is_in}
use Rattle.storage_swap.specs.Storage.{state_of}
use Rattle.storage_changes.specs.Ending.{ended_below}
use Rattle.task_plans.specs.Sights.{tasks_below}
use Rattle.task_plans.proofs.EndingTasks.{AreGathered}
use Rattle.task_plans.proofs.ended.tasks_that_end.Given as goal

abbrev pub invariant-loop-task : goal.invariant-loop-task
invariant-loop-task l =
    let m = state_of l.storage in
    AreGathered (is_in (ended_below m.tasks.parents l.tree.top)) l.tasks.items (tasks_below m l.tree.top) l.task × (length l.tasks.items < l.task)
