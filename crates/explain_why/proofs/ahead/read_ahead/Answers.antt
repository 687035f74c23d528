use Rattle.std.proofs.Common.{◌≡◌, ◌≤◌, arith, subst, sym}
use Rattle.explain_why.specs.Ahead.{IsAhead}
use Rattle.explain_why.proofs.Reading.{at_first, open_at_end, open_at_feed, open_ten, reads_more, told_ahead}
use Rattle.explain_why.proofs.ahead.read_ahead.Goals as goal

pub loop-lines-init : goal.loop-lines-init
loop-lines-init c = at_first c.args.text.now c.new-places.result.lines.items c.new-reader.result c.new-reader.ensures c.new-places.ensures

pub returns-in-Some : goal.returns-in-Some
returns-in-Some c =
    let l = c.loop-lines in
    let few : l.lines ≤ 10 = grind (arith, l.auto.lines-end, c.loop-lines-test.true) in
    told_ahead c.args.text.now c.rest_from-rest.result.now l.at l.lines c.before_feed-size.result l.places.lines.items c.push.new.self l.reader c.brought.new.reader c.line_of.result.now l.invariant
    c.rest_from-rest.ensures c.before_feed-size.ensures.within c.before_feed-size.ensures.plain c.before_feed-size.ensures.feed c.line_of.ensures few c.push.ensures.whole
    c.in-Some.asked (c.in-Some.ensures l.invariant.lines l.invariant.quiet)

pub returns-then-size-rest : goal.returns-then-size-rest
returns-then-size-rest c =
    let l = c.loop-lines in
    let few : l.lines ≤ 10 = grind (arith, l.auto.lines-end, c.loop-lines-test.true) in
    subst (IsAhead c.args.text.now) (sym c.open_ahead.ensures)
    (open_at_end c.args.text.now c.rest_from-rest.result.now l.at l.lines c.before_feed-size.result l.places.lines.items c.push.new.self l.reader c.brought.new.reader c.line_of.result.now l.invariant
    c.rest_from-rest.ensures c.before_feed-size.ensures.within c.before_feed-size.ensures.plain c.before_feed-size.ensures.feed c.line_of.ensures few c.push.ensures.whole
    c.if-size-rest.true (c.in_default.ensures l.invariant.lines l.invariant.quiet))

pub returns-then-at-text : goal.returns-then-at-text
returns-then-at-text c =
    let l = c.loop-lines in
    let few : l.lines ≤ 10 = grind (arith, l.auto.lines-end, c.loop-lines-test.true) in
    subst (IsAhead c.args.text.now) (sym c.open_ahead-then-at-text.ensures)
    (open_at_feed c.args.text.now c.rest_from-rest.result.now l.at l.lines c.before_feed-size.result l.places.lines.items c.push.new.self l.reader c.brought.new.reader c.line_of.result.now l.invariant
    c.rest_from-rest.ensures c.before_feed-size.ensures.within c.before_feed-size.ensures.plain c.before_feed-size.ensures.feed c.line_of.ensures few c.push.ensures.whole
    c.if-size-rest.false c.if-at-text.true (c.in_default.ensures l.invariant.lines l.invariant.quiet))

pub loop-lines-preserved : goal.loop-lines-preserved
loop-lines-preserved c =
    let l = c.loop-lines in
    let few : l.lines ≤ 10 = grind (arith, l.auto.lines-end, c.loop-lines-test.true) in
    reads_more c.args.text.now c.rest_from-rest.result.now l.at l.lines c.before_feed-size.result l.places.lines.items c.push.new.self l.reader c.brought.new.reader c.line_of.result.now l.invariant
    c.rest_from-rest.ensures c.before_feed-size.ensures.within c.before_feed-size.ensures.plain c.before_feed-size.ensures.feed c.line_of.ensures few c.push.ensures.whole
    c.if-size-rest.false c.if-at-text.false (c.in_default.ensures l.invariant.lines l.invariant.quiet)

pub returns : goal.returns
returns c =
    let l = c.loop-lines in
    let last : l.lines ≡ 11 = grind (arith, l.auto.lines-end, c.loop-lines-test.false) in
    subst (IsAhead c.args.text.now) (sym c.open_ahead-2.ensures) (open_ten c.args.text.now l.at l.lines l.places l.reader last l.invariant)
