use Rattle.std.proofs.Common.{◌++◌, ◌∷◌, [], codes, subst, ap, ◌∙◌}
use Rattle.text_output.specs.Writing.{Puts}
use Rattle.text_output.proofs.Gathering.{puts_both}
use Rattle.explain_who.specs.LineTexts.{line_text}
use Rattle.explain_who.specs.Texts.{at_text, shown_at, side_text}
use Rattle.explain_who.proofs.lines.put_part_line.Goals as goal

pub returns : goal.returns
returns g c =
    let change = c.args.change.now in
    let part = c.args.part in
    let skip = c.skip_of-skip.result in
    let skip_is = c.skip_of-skip.ensures in
    let at_is = c.shown_at.ensures ∙ ap (shown_at part change.before.now) skip_is in
    let line = line_text c.args.script.now change.line in
    let at = at_text c.shown_at.result in
    let before = side_text part change.before.now change.taken_before skip in
    let arrow = codes " -> " in
    let after = side_text part change.after.now change.taken_after skip in
    subst (Puts _ _ _ _)
    (λ i. (line ++ at_text (at_is i) ++ side_text part change.before.now change.taken_before (skip_is i) ++ arrow
    ++ side_text part change.after.now change.taken_after (skip_is i)) ++ 10 ∷ [])
    (puts_both _ _ _ _ _ _ (line ++ at ++ before ++ arrow ++ after) (10 ∷ [])
    (puts_both _ _ _ _ _ _ (line ++ at ++ before ++ arrow) after
    (puts_both _ _ _ _ _ _ (line ++ at ++ before) arrow
    (puts_both _ _ _ _ _ _ (line ++ at) before (puts_both _ _ _ _ _ _ line at c.put_line.ensures c.put_at.ensures) c.put_side.ensures)
    c.put.ensures.puts)
    c.put_side-2.ensures)
    c.put-2.ensures.puts)
