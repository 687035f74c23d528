use Rattle.std.proofs.Common.{ℕ, drop, get_or, ◌+◌}
use Rattle.explain_text.specs.Columns.{column}
use Rattle.explain_report.specs.Texts.{columns}
use Rattle.explain_report.proofs.Remaining.{remains_less, next_text}
use Rattle.explain_report.proofs.tables.put_columns.Goals as goal

pub loop-cell-preserved : goal.loop-cell-preserved
loop-cell-preserved g c =
    let xs = c.args.cells.now in
    let i = c.loop-cell.cell-index in
    remains_less (g.W.Write.contents c.args.writer.now) (g.W.Write.contents c.loop-cell.writer) (g.W.Write.contents c.put_column.new.writer)
    c.args.gathered.now c.loop-cell.gathered c.put_column.new.gathered (columns xs) (columns (drop i xs)) ((λ (x : ℕ × ℕ). column x.0 x.1) (get_or xs i (0, 0))) (columns (drop (i + 1) xs))
    c.loop-cell.invariant (next_text (λ (x : ℕ × ℕ). column x.0 x.1) xs i (0, 0) c.loop-cell-test.true) c.put_column.ensures
