use Rattle.std.proofs.Common.{◌-◌, length, subst}
use Rattle.explain_faults.specs.Places.{IsHeadPlace}
use Rattle.explain_faults.proofs.FieldOver.{broken_lines, caret_marks, marks_stay}
use Rattle.explain_faults.proofs.HeadPlaces.{head_stays}
use Rattle.explain_faults.proofs.carets.gathered_caret.Goals as goal

pub returns-clause-marks : goal.returns-clause-marks
returns-clause-marks c =
    let over = c.field_over-field in
    let wrong = c.wrong_operand-from in
    marks_stay c.args.script.now c.args.lines.now c.args.kind wrong.result.0 wrong.result.1 c.place_for.result c.on_line-place.result c.on_line-place.ensures.same
    (caret_marks c.args.script.now c.args.lines.now c.further_lines.result.now c.first_card-card.result c.args.kind over.result.0 over.result.1 c.text.result.now
    wrong.result.0 wrong.result.1 c.place_for.result c.first_card-card.ensures c.further_lines.ensures over.ensures.whole over.ensures.broken
    c.text.ensures.value wrong.ensures.wrong c.place_for.ensures.place)

pub returns-clause-broken : goal.returns-clause-broken
returns-clause-broken c = λ no.
    broken_lines c.args.script.now c.args.lines.now c.further_lines.result.now c.first_card-card.result c.field_over-field.result.1 c.is_none-joins.result c.is_none-joins.ensures
    c.first_card-card.ensures c.further_lines.ensures c.field_over-field.ensures.broken no

pub returns-clause-head : goal.returns-clause-head
returns-clause-head c =
    let place = c.place_for.result in
    subst (λ card. IsHeadPlace card c.args.kind c.on_line-place.result) c.first_card-card.ensures
    (head_stays c.first_card-card.result c.args.kind place c.on_line-place.result (length c.args.lines.now - 1) c.on_line-place.ensures.same c.place_for.ensures.head)
