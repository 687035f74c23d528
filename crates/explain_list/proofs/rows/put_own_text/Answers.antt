use Rattle.std.proofs.Common.{[], ◌∷◌, Option, is_some, ap, sym, refl}
use Rattle.explain_text.specs.declared.json.Form.TheVariants as form
use Rattle.explain_faults.specs.declared.lines.SourceLine.{SourceLine}
use Rattle.explain_list.specs.Rows.{source, lost}
use Rattle.explain_list.proofs.Each.{row_one}
use Rattle.explain_list.proofs.rows.put_own_text.Goals as goal

pub returns-in-Some : goal.returns-in-Some
returns-in-Some g c = λ line before.
    row_one form.Text c.args.script.now (c.args.line.now ∷ []) (is_some c.args.lost ∷ []) [] _ _ _ _ (lost c.args.line.now c.in-Some.before) refl (ap (λ (o : Option SourceLine). is_some o ∷ []) (sym c.in-Some.is)) refl (line, rw c.in-Some.is at before) c.put_lost.ensures

pub returns-in-None : goal.returns-in-None
returns-in-None g c = λ line before.
    row_one form.Text c.args.script.now (c.args.line.now ∷ []) (is_some c.args.lost ∷ []) [] _ _ _ _ (source c.args.line.now) refl (ap (λ (o : Option SourceLine). is_some o ∷ []) (sym c.in-None.is)) refl line c.put_source.ensures
