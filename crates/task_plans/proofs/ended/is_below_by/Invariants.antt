use Rattle.std.proofs.Common.{◌≡◌, ◌-◌}
use Rattle.storage_swap.specs.Storage.{state_of}
use Rattle.storage_changes.specs.Ending.{is_below_by}
use Rattle.task_plans.proofs.ended.is_below_by.Given as goal

abbrev pub invariant-loop : goal.invariant-loop
invariant-loop l =
    let parents = (state_of l.storage).tasks.parents in
    is_below_by parents l.tree.top (l.steps - l.counter) l.above ≡ is_below_by parents l.tree.top l.steps l.task
