use Rattle.std.proofs.Common.{◌++◌, codes, subst, ap, ◌∙◌}
use Rattle.text_output.specs.Writing.{Puts}
use Rattle.text_output.proofs.Gathering.{puts_both}
use Rattle.explain_text.specs.Json.{object_end, object_start, string_field}
use Rattle.explain_who.specs.LineTexts.{line_fields}
use Rattle.explain_who.specs.Objects.{address_field, text_field}
use Rattle.explain_who.specs.Texts.{shown_at, side_text}
use Rattle.explain_who.proofs.objects.put_part_object.Goals as goal

pub returns : goal.returns
returns g c =
    let change = c.args.change.now in
    let part = c.args.part in
    let skip = c.skip_of-skip.result in
    let skip_is = c.skip_of-skip.ensures in
    let at_is = c.shown_at.ensures ∙ ap (shown_at part change.before.now) skip_is in
    let start = object_start (codes "change") in
    let line = line_fields c.args.script.now change.line in
    let of = string_field (codes "of") c.part_of.result.now in
    let at = address_field c.shown_at.result in
    let before = text_field (codes "before") (side_text part change.before.now change.taken_before skip) in
    let after = text_field (codes "after") (side_text part change.after.now change.taken_after skip) in
    subst (Puts _ _ _ _)
    (λ i. start ++ line ++ string_field (codes "of") (c.part_of.ensures i) ++ address_field (at_is i)
    ++ text_field (codes "before") (side_text part change.before.now change.taken_before (skip_is i))
    ++ text_field (codes "after") (side_text part change.after.now change.taken_after (skip_is i)) ++ object_end)
    (puts_both _ _ _ _ _ _ (start ++ line ++ of ++ at ++ before ++ after) object_end
    (puts_both _ _ _ _ _ _ (start ++ line ++ of ++ at ++ before) after
    (puts_both _ _ _ _ _ _ (start ++ line ++ of ++ at) before
    (puts_both _ _ _ _ _ _ (start ++ line ++ of) at
    (puts_both _ _ _ _ _ _ (start ++ line) of (puts_both _ _ _ _ _ _ start line c.put_object_start.ensures c.put_line_fields.ensures)
    c.put_string_field.ensures)
    c.put_address_field.ensures)
    c.put_side_field.ensures)
    c.put_side_field-2.ensures)
    c.put_object_end.ensures)
