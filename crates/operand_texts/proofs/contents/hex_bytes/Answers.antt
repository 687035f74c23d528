use Rattle.std.proofs.Common.{arith}
use Rattle.operand_texts.proofs.Bytes.{hex_more}
use Rattle.operand_texts.proofs.contents.hex_bytes.Goals as goal

pub loop-i-preserved : goal.loop-i-preserved
loop-i-preserved c = record {
  rest = rw c.push.ensures.items (hex_more c.args.digits.now c.loop-i.i c.in_ok-byte.byte c.loop-i.bytes.items _ (omega (arith, c.loop-i-test.true)) c.in_ok-byte.ensures c.loop-i.invariant.rest);
  count = omega (arith, c.push.ensures.len, c.loop-i.invariant.count);
}
