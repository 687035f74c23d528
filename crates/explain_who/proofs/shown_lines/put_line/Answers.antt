use Rattle.std.proofs.Common.{◌++◌, ◌∙◌, codes, subst}
use Rattle.std.specs.Fmt.{decimal}
use Rattle.text_output.specs.Writing.{Puts}
use Rattle.text_output.proofs.Gathering.{puts_both}
use Rattle.explain_who.specs.LineTexts.{padded}
use Rattle.explain_who.proofs.shown_lines.put_line.Goals as goal

pub returns : goal.returns
returns g c =
    let line = codes "line " in
    let number = decimal c.from.result in
    let blank = codes " " in
    let text = padded c.shown_bytes.result.now in
    let same = c.shown_bytes.ensures.bytes ∙ c.statement_of-statement.ensures in
    subst (Puts _ _ _ _) (λ i. line ++ decimal (c.from.ensures i) ++ blank ++ padded (same i) ++ codes " | ")
    (puts_both _ _ _ _ _ _ (line ++ number ++ blank ++ text) (codes " | ")
    (puts_both _ _ _ _ _ _ (line ++ number ++ blank) text
    (puts_both _ _ _ _ _ _ (line ++ number) blank (puts_both _ _ _ _ _ _ line number c.put.ensures.puts c.put_decimal.ensures) c.put-2.ensures.puts)
    c.put_padded.ensures)
    c.put-3.ensures.puts)
