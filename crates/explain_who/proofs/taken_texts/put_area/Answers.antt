use Rattle.std.proofs.Common.{◌++◌, codes, sym, ap, subst, ◌∙◌}
use Rattle.std.specs.Fmt.{decimal}
use Rattle.text_output.specs.Writing.{Holds}
use Rattle.text_output.proofs.Gathering.{puts_both}
use Rattle.explain_who.specs.TakenTexts.{area_text}
use Rattle.explain_who.proofs.taken_texts.put_area.Goals as goal

pub returns-in-Some : goal.returns-in-Some
returns-in-Some g c = λ first text h.
    subst (Holds first (g.W.Write.contents c.put_decimal.new.writer) c.put_decimal.new.gathered)
    ((λ i. text ++ (codes "area of line " ++ decimal (c.from.ensures i))) ∙ ap (λ line. text ++ area_text line) (sym c.in-Some.is))
    (puts_both _ _ _ _ _ _ (codes "area of line ") (decimal c.from.result) c.put.ensures.puts c.put_decimal.ensures first text h)
