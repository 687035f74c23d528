use Rattle.std.proofs.Common.{[], ◌∷◌, Option, is_some, ap, sym, refl, subst}
use Rattle.explain_text.specs.declared.json.Form.TheVariants as form
use Rattle.text_output.specs.Writing.{Puts}
use Rattle.text_output.proofs.Gathering.{puts_none}
use Rattle.explain_faults.specs.declared.lines.SourceLine.{SourceLine}
use Rattle.explain_list.specs.Rows.{dropped_object, source, lost}
use Rattle.explain_list.proofs.Each.{row_one}
use Rattle.explain_list.proofs.rows.put_own_object.Goals as goal

pub returns-in-Some : goal.returns-in-Some
returns-in-Some g c = λ line before.
    row_one form.Json c.args.script.now (c.args.line.now ∷ []) (is_some c.args.lost ∷ []) [] _ _ _ _ (lost c.args.line.now c.in-Some.before) refl (ap (λ (o : Option SourceLine). is_some o ∷ []) (sym c.in-Some.is)) refl (line, rw c.in-Some.is at before)
    (subst (Puts (g.W.Write.contents c.args.writer.now) (g.W.Write.contents c.put_dropped_object.new.writer) c.args.gathered.now c.put_dropped_object.new.gathered)
    (λ i. dropped_object c.args.line.now.number (c.bytes.ensures i) (c.bytes-in-Some.ensures i)) c.put_dropped_object.ensures)

pub returns-in_default : goal.returns-in_default
returns-in_default g c = λ line before.
    row_one form.Json c.args.script.now (c.args.line.now ∷ []) (is_some c.args.lost ∷ []) [] _ _ _ _ (source c.args.line.now) refl (ap (λ (o : Option SourceLine). is_some o ∷ []) (sym c.in_default.is)) refl line (puts_none _ _)
