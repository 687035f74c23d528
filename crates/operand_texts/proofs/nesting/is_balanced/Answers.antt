use Rattle.std.proofs.Common.{◌∙◌}
use Rattle.operand_texts.proofs.Above.{as_deep, deeper, balanced_passes, balanced_goes_on}
use Rattle.operand_texts.proofs.nesting.is_balanced.Goals as goal

pub loop-byte-preserved-then-byte-gt41 : goal.loop-byte-preserved-then-byte-gt41
loop-byte-preserved-then-byte-gt41 c =
    let l = c.loop-byte in
    record {
      rest = balanced_passes l.at c.args.text.now l.byte-index c.loop-byte-test.true c.if-byte-gt41.true ∙ l.invariant.rest;
      depth = as_deep l.at.depth l.byte-index l.invariant.depth;
    }

pub loop-byte-preserved : goal.loop-byte-preserved
loop-byte-preserved c =
    let l = c.loop-byte in
    record {
      rest = balanced_goes_on l.at c.past-at.result c.args.text.now l.byte-index c.loop-byte-test.true c.past-at.ensures.value ∙ l.invariant.rest;
      depth = deeper c.past-at.result.depth l.at.depth l.byte-index c.past-at.ensures.depth l.invariant.depth;
    }
