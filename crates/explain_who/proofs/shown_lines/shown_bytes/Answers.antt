use Rattle.std.proofs.Common.{ap, refl, ◌∙◌, ◌≤◌, length, take, subst, sym, arith}
use Rattle.std.proofs.lemmas.List.{length-take}
use Rattle.std.proofs.lemmas.Str.Ascii.{trim_ascii_is}
use Rattle.explain_who.specs.LineTexts.{without_blanks_before, without_blanks_after}
use Rattle.explain_who.proofs.shown_lines.shown_bytes.Goals as goal

pub returns : goal.returns
returns c =
    let trimmed =
    trim_ascii_is _ _ _ refl c.trim_ascii.ensures.value
    ∙ ap (λ text. without_blanks_after (without_blanks_before text)) c.as_slice.ensures.value in
    record {
      bytes = c.front.ensures ∙ ap (take 71) trimmed;
      few = subst (λ text. length text ≤ 71) (sym c.front.ensures) (omega (arith, length-take 71 c.trim_ascii.result.now));
    }
