use Rattle.std.proofs.Common.{◌≡◌, List, [], ◌∷◌, codes, map, ap, subst, ◌∙◌}
use Rattle.text_output.specs.Writing.{Puts}
use Rattle.explain_text.specs.Rows.{Meant, meant, only_in_text, row_of}
use Rattle.explain_areas.specs.RowTexts.{areas_fields}
use Rattle.explain_areas.proofs.sums.put_areas_sum.Goals as goal

pub returns : goal.returns
returns g c =
    let are : map meant (c.number.result ∷ c.only_in_text.result ∷ c.number-2.result ∷ c.only_in_text-2.result ∷ c.cells_field.result ∷ c.only_in_text-3.result ∷ []) ≡ areas_fields c.args.sum =
    λ i. c.number.ensures i ∷ (c.only_in_text.ensures ∙ ap only_in_text c.word.ensures) i ∷ c.number-2.ensures i ∷ c.only_in_text-2.ensures i ∷ c.cells_field.ensures i
    ∷ (c.only_in_text-3.ensures ∙ ap only_in_text c.cells_word.ensures) i ∷ [] in
    subst
    (λ (fs : List Meant). Puts (g.W.Write.contents c.args.writer.now) (g.W.Write.contents c.put_row.new.writer) c.args.gathered.now c.put_row.new.gathered (row_of c.args.form (codes "sum") fs))
    are c.put_row.ensures
