use Rattle.std.proofs.Common.{[], refl}
use Rattle.explain_list.specs.Rows.{warned}
use Rattle.explain_list.proofs.Each.{row_one, rows_no}
use Rattle.explain_list.proofs.rows.put_warned.Goals as goal

pub returns-in-Some : goal.returns-in-Some
returns-in-Some g c = λ line.
    row_one c.args.form c.args.script.now [] [] [] _ _ _ _ (warned c.args.line.now c.in-Some.place 1 c.one_line-words.result.now) refl refl refl (line, c.one_line-words.ensures) c.put_warned_row.ensures

pub returns-in_default : goal.returns-in_default
returns-in_default g c = λ line. rows_no c.args.form c.args.script.now _ _
