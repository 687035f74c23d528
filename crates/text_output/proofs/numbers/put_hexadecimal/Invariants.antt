use Rattle.text_output.specs.Writing.{Puts}
use Rattle.text_output.proofs.DigitByDigit.{zeros}
use Rattle.text_output.proofs.numbers.put_hexadecimal.Given as goal

abbrev pub invariant-loop : goal.invariant-loop
invariant-loop g l = Puts (g.W.Write.contents l.fn.writer) (g.W.Write.contents l.writer) l.fn.gathered l.gathered (zeros l.counter)
