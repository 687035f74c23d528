use Rattle.std.proofs.Common.{◌++◌, ◌∙◌, codes, subst}
use Rattle.text_output.specs.Writing.{Puts}
use Rattle.text_output.proofs.Gathering.{puts_both}
use Rattle.explain_text.specs.Json.{number_field, string_field}
use Rattle.explain_who.proofs.shown_lines.put_line_fields.Goals as goal

pub returns : goal.returns
returns g c =
    let number = number_field (codes "line") c.from.result in
    let text = string_field (codes "statement") c.shown_bytes.result.now in
    let same = c.shown_bytes.ensures.bytes ∙ c.statement_of-statement.ensures in
    subst (Puts _ _ _ _) (λ i. number_field (codes "line") (c.from.ensures i) ++ string_field (codes "statement") (same i))
    (puts_both _ _ _ _ _ _ number text c.put_number_field.ensures c.put_string_field.ensures)
