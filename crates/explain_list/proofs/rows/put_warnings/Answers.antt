use Rattle.std.proofs.Common.{[]}
use Rattle.explain_list.proofs.Each.{rows_no, rows_both}
use Rattle.explain_list.proofs.rows.put_warnings.Goals as goal

pub loop-kind-init : goal.loop-kind-init
loop-kind-init g c = λ line. rows_no c.args.form c.args.script.now _ _

pub loop-kind-preserved : goal.loop-kind-preserved
loop-kind-preserved g c = λ line.
    rows_both c.args.form c.args.script.now [] [] [] [] [] [] _ _ _ _ _ _ (c.loop-kind.invariant line) (c.put_warned.ensures line)
