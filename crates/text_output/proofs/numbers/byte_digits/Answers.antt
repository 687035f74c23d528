use Rattle.std.proofs.Common.{arith}
use Rattle.text_output.proofs.DigitByDigit.{byte_written}
use Rattle.text_output.proofs.numbers.byte_digits.Goals as goal

pub loop-i-preserved : goal.loop-i-preserved
loop-i-preserved c =
    let l = c.loop-i in
    byte_written l.places c.write_pair.new.places c.args.bytes.now l.i _ c.from.result c.loop-i-test.true (omega arith) c.from.ensures (omega arith)
    c.write_pair.ensures l.invariant
