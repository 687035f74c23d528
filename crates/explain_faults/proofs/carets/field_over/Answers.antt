use Rattle.std.proofs.Common.{◌+◌, ◌∙◌, ap}
use Rattle.explain_faults.proofs.FieldOver.{over_more, over_broken}
use Rattle.explain_faults.proofs.carets.field_over.Goals as goal

pub returns-in-Err-clause-broken : goal.returns-in-Err-clause-broken
returns-in-Err-clause-broken c =
    over_broken c.args.script.now c.args.card.now c.args.lines.now c.loop-i.i _ c.card_at.result c.loop-i.field c.loop-i-test.true c.card_at.ensures
    c.loop-i.invariant.over c.in-Err.ensures.broken

pub loop-i-preserved : goal.loop-i-preserved
loop-i-preserved c = record {
  lines = c.in_default.ensures.lines ∙ ap (λ n. n + 1) c.loop-i.invariant.lines;
  over =
      over_more c.args.script.now c.args.card.now c.args.lines.now c.loop-i.i _ c.card_at.result c.loop-i.field c.take_line.new.self c.loop-i-test.true
      c.card_at.ensures c.loop-i.invariant.lines c.loop-i.invariant.over c.in_default.ensures.joined c.in_default.ensures.places;
}
