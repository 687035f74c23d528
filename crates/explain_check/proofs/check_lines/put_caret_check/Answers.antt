use Rattle.std.proofs.Common.{◌∙◌, ℕ, [], ◌∷◌, ap, refl, sym, min}
use Rattle.explain_list.specs.Rows.{mark_of}
use Rattle.explain_check.specs.Lines.{faulty, line_at, manner_of}
use Rattle.explain_check.specs.declared.rows.LinePlace.{LinePlace}
use Rattle.explain_check.proofs.Said.{one_line}
use Rattle.explain_check.proofs.check_lines.put_caret_check.Goals as goal

pub returns : goal.returns
returns g c = λ line same.
    let kind = c.args.kind in
    let at = c.place_on.result in
    one_line (manner_of c.args.manner) (line_at at (faulty kind c.one_line.result.now c.one_line-hint.result.now)) (mark_of line (c.args.caret.now, kind) ∷ []) [] [] _ _ _ _
    (c.one_line.ensures, c.one_line-hint.ensures)
    (ap (λ (p : LinePlace). (p.number, (p.column, kind)) ∷ []) c.place_on.ensures ∙ ap (λ (n : ℕ). (n, (min c.args.caret.now.place.column 100000, kind)) ∷ []) (sym same)) refl refl
    c.put_check_line.ensures
