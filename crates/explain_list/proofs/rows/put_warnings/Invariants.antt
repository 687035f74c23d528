use Rattle.std.proofs.Common.{[]}
use Rattle.explain_list.specs.Rows.{IsLineAt, PutsRows}
use Rattle.explain_list.proofs.rows.put_warnings.Given as goal

abbrev pub invariant-loop-kind : goal.invariant-loop-kind
invariant-loop-kind g l =
    IsLineAt l.script l.line → PutsRows l.form l.script [] [] [] (g.W.Write.contents l.fn.writer) (g.W.Write.contents l.writer) l.fn.gathered l.gathered
