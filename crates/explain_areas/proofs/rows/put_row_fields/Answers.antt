use Rattle.std.proofs.Common.{◌≡◌, ℕ, List, [], ◌∷◌, codes, map, ap, subst, ◌∙◌}
use Rattle.text_output.specs.Writing.{Puts}
use Rattle.explain_text.specs.Rows.{Meant, fields_of, meant, number}
use Rattle.explain_areas.specs.RowTexts.{fields}
use Rattle.explain_areas.proofs.rows.put_row_fields.Goals as goal

pub returns : goal.returns
returns g c =
    let are :
    map meant
    (c.number.result ∷ c.address.result ∷ c.pool_field.result ∷ c.number-2.result ∷ c.number-3.result ∷ c.pool_field-2.result ∷ c.asked_field.result ∷ c.truth.result ∷ [])
    ≡ fields c.args.row.now =
    λ i. c.number.ensures i ∷ c.address.ensures i ∷ c.pool_field.ensures i
    ∷ (c.number-2.ensures ∙ ap (λ (n : ℕ). number (codes ", subpool ") (codes "subpool") n) c.from.ensures) i
    ∷ (c.number-3.ensures ∙ ap (λ (n : ℕ). number (codes " of task ") (codes "owner") n) c.from-2.ensures) i
    ∷ c.pool_field-2.ensures i ∷ c.asked_field.ensures i ∷ c.truth.ensures i ∷ [] in
    subst
    (λ (fs : List Meant). Puts (g.W.Write.contents c.args.writer.now) (g.W.Write.contents c.put_fields.new.writer) c.args.gathered.now c.put_fields.new.gathered (fields_of c.args.form fs))
    are c.put_fields.ensures
