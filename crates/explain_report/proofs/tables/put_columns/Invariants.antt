use Rattle.std.proofs.Common.{drop}
use Rattle.explain_report.specs.Texts.{columns}
use Rattle.explain_report.proofs.Remaining.{Remains}
use Rattle.explain_report.proofs.tables.put_columns.Given as goal

abbrev pub invariant-loop-cell : goal.invariant-loop-cell
invariant-loop-cell g l = Remains (g.W.Write.contents l.fn.writer) (g.W.Write.contents l.writer) l.fn.gathered l.gathered (columns l.cells) (columns (drop l.cell-index l.cells))
