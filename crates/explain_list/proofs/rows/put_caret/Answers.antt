use Rattle.std.proofs.Common.{[], ◌∷◌, refl}
use Rattle.explain_faults.specs.Places.{caret_width}
use Rattle.explain_list.specs.Rows.{faulty, mark_of}
use Rattle.explain_list.proofs.Each.{row_one}
use Rattle.explain_list.proofs.rows.put_caret.Goals as goal

pub returns : goal.returns
returns g c = λ line.
    let caret = c.args.caret.now in
    let kind = c.args.kind in
    row_one c.args.form c.args.script.now [] [] (mark_of c.args.line.now (caret, kind) ∷ []) _ _ _ _ (faulty c.args.line.now caret.place.column (caret_width kind caret) kind c.one_line.result.now c.one_line-hint.result.now) refl refl refl
    (line, c.one_line.ensures, c.one_line-hint.ensures) c.put_faulty_row.ensures
