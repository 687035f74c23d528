use Rattle.std.proofs.Common.{take}
use Rattle.explain_findings.specs.LeftTables.{AreLinesLeft}
use Rattle.explain_findings.proofs.left.LeftTable.lines_left.Given as goal

abbrev pub invariant-loop-entry : goal.invariant-loop-entry
invariant-loop-entry l = AreLinesLeft l.self (take l.entry-index l.entries) l.lines.items
