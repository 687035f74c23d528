use Rattle.std.proofs.Common.{◌≡◌, ◌-◌}
use Rattle.vsm_model.specs.Ending.{climbs}
use Rattle.storage_swap.specs.Storage.{state_of}
use Rattle.task_plans.proofs.ended.is_ended.Given as goal

abbrev pub invariant-loop : goal.invariant-loop
invariant-loop l =
    let parents = (state_of l.storage).tasks.parents in
    climbs parents (63 - l.counter) l.tree.top l.above ≡ climbs parents 63 l.tree.top l.task
