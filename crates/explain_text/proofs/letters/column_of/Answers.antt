use Rattle.std.proofs.Common.{arith}
use Rattle.explain_text.proofs.Columns.{column_more, column_same}
use Rattle.explain_text.proofs.letters.column_of.Goals as goal
use Rattle.explain_text.proofs.letters.column_of.Goals.{then-not-continues, else-not-continues}

pub loop-i-preserved : goal.loop-i-preserved
loop-i-preserved c =
    let l = c.loop-i in
    elim c.if-not-continues.branch [
      | then-not-continues w ↦ record {
        column = column_more c.args.line.now l.i l.column _ c.continues.result c.continues.ensures w.if-not-continues.true w.column-is l.invariant.column;
        few = omega (arith, w.column-is, l.invariant.few);
      }
      | else-not-continues w ↦ record {
        column = column_same c.args.line.now l.i l.column _ c.continues.result c.continues.ensures w.if-not-continues.false w.column-is l.invariant.column;
        few = omega (arith, w.column-is, l.invariant.few);
      }
    ]
