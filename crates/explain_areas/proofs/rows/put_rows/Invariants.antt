use Rattle.std.proofs.Common.{flat_map, take}
use Rattle.text_output.specs.Writing.{Puts}
use Rattle.explain_areas.specs.RowTexts.{row_in}
use Rattle.explain_areas.proofs.rows.put_rows.Given as goal

abbrev pub invariant-loop-row : goal.invariant-loop-row
invariant-loop-row g l =
    Puts (g.W.Write.contents l.fn.writer) (g.W.Write.contents l.writer) l.fn.gathered l.gathered (flat_map (row_in l.form l.script) (take l.row-index l.rows))
