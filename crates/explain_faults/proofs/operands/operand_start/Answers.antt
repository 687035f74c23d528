use Rattle.std.proofs.Common.{◌≡◌, ◌<◌, length, ap, arith}
use Rattle.operand_texts.specs.declared.nesting.Nesting.{Nesting}
use Rattle.explain_faults.proofs.Ends.{nesting_more, starts_more, starts_first}
use Rattle.explain_faults.proofs.operands.operand_start.Goals as goal

pub loop-i-init : goal.loop-i-init
loop-i-init c =
    let e = c.outside-at.ensures in
    let none : c.outside-at.result.depth ≡ 0 = ap (λ (n : Nesting). n.depth) e in
    record { at = e; deep = omega (arith, none); starts = starts_first c.args.text.now }

pub loop-i-preserved : goal.loop-i-preserved
loop-i-preserved c =
    let l = c.loop-i in
    let text = c.args.text.now in
    let more : l.i < length text = omega (arith, c.loop-i-test.true, c.requires.within) in
    record {
      at = nesting_more text l.i l.at c.past-at.result more l.invariant.at c.past-at.ensures.value;
      deep = omega (arith, c.past-at.ensures.depth, l.invariant.deep);
      starts = starts_more text l.i l.start c.start_behind-start.result l.at more l.invariant.at c.start_behind-start.ensures l.invariant.starts;
    }
