use Rattle.std.proofs.Common.{◌-◌, ◌++◌, replicate, ap, ◌∙◌, subst}
use Rattle.text_output.specs.Writing.{Puts}
use Rattle.text_output.proofs.Gathering.{puts_both}
use Rattle.explain_text.specs.Letters.{shown}
use Rattle.explain_who.proofs.shown_lines.put_padded.Goals as goal

pub returns : goal.returns
returns g c =
    let text = c.args.text.now in
    subst (Puts _ _ _ _) (ap (λ n. shown text ++ replicate n 32) (c.saturating_sub.ensures ∙ ap (λ n. 44 - n) c.column_of-columns.ensures))
    (puts_both _ _ _ _ _ _ (shown text) _ c.put_shown.ensures c.put_blanks.ensures)
