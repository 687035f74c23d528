use Rattle.std.proofs.Common.{replicate}
use Rattle.text_output.specs.Writing.{Puts}
use Rattle.explain_text.proofs.puts.put_blanks.Given as goal

abbrev pub invariant-loop : goal.invariant-loop
invariant-loop g l =
    Puts (g.W.Write.contents l.fn.writer) (g.W.Write.contents l.writer) l.fn.gathered l.gathered (replicate l.counter 32)
