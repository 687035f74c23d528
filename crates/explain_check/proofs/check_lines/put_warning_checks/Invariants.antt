use Rattle.std.proofs.Common.{[]}
use Rattle.explain_check.specs.Lines.{PutsChecks, manner_of}
use Rattle.explain_check.proofs.check_lines.put_warning_checks.Given as goal

abbrev pub invariant-loop-i : goal.invariant-loop-i
invariant-loop-i g l = PutsChecks (manner_of l.manner) [] [] [] (g.W.Write.contents l.fn.writer) (g.W.Write.contents l.writer) l.fn.gathered l.gathered
