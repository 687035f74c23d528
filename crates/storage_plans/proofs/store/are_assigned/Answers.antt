use Rattle.std.proofs.Common.{◌<◌, ◌∙◌, sym, arith}
use Rattle.storage_plans.proofs.Stores.{both_ends, first_absent}
use Rattle.storage_plans.proofs.store.are_assigned.Goals as goal

pub returns-then-assigned : goal.returns-then-assigned
returns-then-assigned c =
    let some : 0 < c.args.count = omega (arith, c.if-count-eq0.false) in
    both_ends c.args.storage.now c.requires.frameless c.args.address c.args.count c.assigned-then-assigned.result
    some c.requires.room (sym c.assigned.ensures ∙ c.if-assigned.true) c.assigned-then-assigned.ensures

pub returns-else-assigned : goal.returns-else-assigned
returns-else-assigned c =
    let some : 0 < c.args.count = omega (arith, c.if-count-eq0.false) in
    c.if-assigned.false
    ∙ first_absent c.args.storage.now c.requires.frameless c.args.address c.args.count some (sym c.assigned.ensures ∙ c.if-assigned.false)
