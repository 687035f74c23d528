use Rattle.std.proofs.Common.{sym, ◌∙◌}
use Rattle.storage_swap.specs.Storage.{state_of}
use Rattle.storage_plans.proofs.FreeSides.{begins_in, are_sides}
use Rattle.storage_plans.proofs.release.free_sides.Goals as goal

pub returns-then-begins_before-clause-free : goal.returns-then-begins_before-clause-free
returns-then-begins_before-clause-free c =
    begins_in ((state_of c.args.storage.now).subpools.free c.args.subpool) c.args.area c.in-Out.sides c.in-Out.ensures
    (sym c.begins_before.ensures ∙ c.if-begins_before.true)

pub returns-clause-sides : goal.returns-clause-sides
returns-clause-sides c =
    are_sides ((state_of c.args.storage.now).subpools.free c.args.subpool) c.args.area c.in-Out.sides c.in-Out.ensures
    (sym c.begins_before.ensures ∙ c.if-begins_before.false)
