use Rattle.std.proofs.Common.{drop, flat_map}
use Rattle.explain_report.specs.Csv.{value_text}
use Rattle.explain_report.proofs.Remaining.{Remains}
use Rattle.explain_report.proofs.csv.put_numbers.Given as goal

abbrev pub invariant-loop-number : goal.invariant-loop-number
invariant-loop-number g l =
    Remains (g.W.Write.contents l.fn.writer) (g.W.Write.contents l.writer) l.fn.gathered l.gathered (flat_map value_text l.numbers) (flat_map value_text (drop l.number-index l.numbers))
