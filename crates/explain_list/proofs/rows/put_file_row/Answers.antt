use Rattle.std.proofs.Common.{[], refl}
use Rattle.explain_list.specs.Rows.{on_file}
use Rattle.explain_list.proofs.Each.{row_one, rows_no}
use Rattle.explain_list.proofs.rows.put_file_row.Goals as goal

pub returns-in-Some : goal.returns-in-Some
returns-in-Some g c =
    row_one c.args.form c.args.script.now [] [] [] _ _ _ _ (on_file c.one_line.result.now) refl refl refl c.one_line.ensures (c.put_file_words.ensures c.args.script.now)

pub returns-in_default : goal.returns-in_default
returns-in_default g c = rows_no c.args.form c.args.script.now _ _
