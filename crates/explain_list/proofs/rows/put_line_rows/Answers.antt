use Rattle.std.proofs.Common.{[], ◌∷◌, is_some}
use Rattle.explain_list.proofs.Each.{rows_both}
use Rattle.explain_list.proofs.rows.put_line_rows.Goals as goal

pub returns : goal.returns
returns g c = λ line before.
    let form = c.args.form in
    let script = c.args.script.now in
    rows_both form script (c.args.line.now ∷ []) [] (is_some c.args.lost ∷ []) [] [] _ _ _ _ _ _ _ (c.put_own_row.ensures line before)
    (rows_both form script [] [] [] [] [] _ _ _ _ _ _ _ (c.put_warnings.ensures line) (c.put_fault_row.ensures line))
