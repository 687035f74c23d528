use Rattle.std.proofs.Common.{◌≡◌, ◌≢◌, true, Err, refl, ap, ◌∙◌, arith}
use Rattle.macro_statements.specs.Statements.{statement_with}
use Rattle.explain_faults.specs.Operands.{front, is_counted, is_end}
use Rattle.explain_faults.proofs.Ends.{nesting_more, below_more, whole_front, whole_counts}
use Rattle.explain_faults.proofs.operands.faulty_end.Goals as goal

pub loop-i-preserved : goal.loop-i-preserved
loop-i-preserved c = record {
  at = nesting_more c.args.text.now c.loop-i.i c.loop-i.at c.past-at.result c.loop-i-test.true c.loop-i.invariant.at c.past-at.ensures.value;
  deep = omega (arith, c.past-at.ensures.depth, c.loop-i.invariant.deep);
  first =
      below_more
      (λ j. is_end c.args.text.now j ≡ true → is_counted c.args.text.now j ≡ true → statement_with c.args.card.now (front c.args.text.now j) ≢ Err c.args.kind)
      c.loop-i.i c.loop-i.invariant.first (c.if-is_faulty_end.ensures.no refl);
}

pub returns-clause-fault : goal.returns-clause-fault
returns-clause-fault c = ap (statement_with c.args.card.now) (whole_front c.args.text.now) ∙ c.requires.fault

pub returns-clause-counted : goal.returns-clause-counted
returns-clause-counted c = whole_counts c.args.text.now
