use Rattle.std.proofs.Common.{◌∙◌, arith}
use Rattle.macro_reader.proofs.Above.{after_more}
use Rattle.explain_faults.proofs.fields.nesting_behind.Goals as goal

pub loop-byte-preserved : goal.loop-byte-preserved
loop-byte-preserved c =
    let l = c.loop-byte in
    record {
      at = c.past-at.ensures.value ∙ after_more c.args.start l.at c.args.text.now l.byte-index c.loop-byte-test.true l.invariant.at;
      depth = omega (arith, c.past-at.ensures.depth, l.invariant.depth);
    }
