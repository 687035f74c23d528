use Rattle.std.proofs.Common.{sym, ◌∙◌}
use Rattle.storage_swap.specs.Storage.{state_of}
use Rattle.task_plans.proofs.Climbs.{one_up}
use Rattle.task_plans.proofs.ended.is_below_by.Goals as goal

pub loop-preserved : goal.loop-preserved
loop-preserved c =
    one_up (state_of c.args.storage.now).tasks.parents c.args.tree.now.top c.args.steps c.loop.counter c.loop.above c.in-Some.parent c.loop-test.true (sym c.in-Some.ensures)
    ∙ c.loop.invariant
