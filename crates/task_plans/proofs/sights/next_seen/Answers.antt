use Rattle.std.proofs.Common.{◌≤◌, sym, ◌∙◌, arith}
use Rattle.storage_swap.specs.Storage.{state_of}
use Rattle.task_plans.specs.Sights.{row_of}
use Rattle.task_plans.proofs.SightLemmas.{asked_for, high_none, seen_done, seen_passes, seen_meets}
use Rattle.task_plans.proofs.sights.next_seen.Goals as goal

pub loop-number-preserved : goal.loop-number-preserved
loop-number-preserved c =
    let p = c.args.storage.now in
    let m = state_of p in
    let w = c.loop-number in
    let range = (c.subpools_are_there.ensures p.elements p.subpools c.requires.stands.subpools).0 in
    w.invariant ∙ seen_passes m c.args.ending.now.tree.top w.number w.asked (high_none m.subpools.sight range) c.in_default.ensures.none

pub returns-in-Some-clause-next : goal.returns-in-Some-clause-next
returns-in-Some-clause-next c =
    let m = state_of c.args.storage.now in
    let top = c.args.ending.now.tree.top in
    let next = c.in-Some.next in
    c.loop-number.invariant ∙ seen_meets m top (asked_for c.loop-number.number c.loop-number.asked) next.1 (row_of next.0) c.in-Some.ensures.number.1 c.in-Some.ensures.next

pub returns-in-Some-clause-number : goal.returns-in-Some-clause-number
returns-in-Some-clause-number c = c.in-Some.ensures.number.1 ∙ sym c.in-Some.ensures.number.0

pub returns-clause-none : goal.returns-clause-none
returns-clause-none c =
    let w = c.loop-number in
    let end = c.args.ending.now.numbers_end in
    let high : end ≤ w.number = omega (arith, c.loop-number-test.false) in
    w.invariant ∙ seen_done (state_of c.args.storage.now) c.args.ending.now.tree.top w.number w.asked (λ task n more. c.requires.ending.numbers.above task n (omega (arith, high, more)))
