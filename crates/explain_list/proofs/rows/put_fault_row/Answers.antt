use Rattle.explain_list.proofs.Each.{rows_no}
use Rattle.explain_list.proofs.rows.put_fault_row.Goals as goal

pub returns-in-Some : goal.returns-in-Some
returns-in-Some g c = λ line. rw c.in-Some.is (c.put_caret.ensures line)

pub returns-in-None : goal.returns-in-None
returns-in-None g c = λ line. rw c.in-None.is (rows_no c.args.form c.args.script.now _ _)
