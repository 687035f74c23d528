use Rattle.std.proofs.Common.{◌++◌, codes, sym, ap, subst, ◌∙◌}
use Rattle.text_output.specs.Writing.{Holds}
use Rattle.explain_who.specs.TakenTexts.{pool_text, taken_text}
use Rattle.explain_who.proofs.taken_texts.put_taken.Goals as goal

pub returns-in-PastCells : goal.returns-in-PastCells
returns-in-PastCells g c = λ first text h.
    subst (Holds first (g.W.Write.contents c.put_pool-in-PastCells.new.writer) c.put_pool-in-PastCells.new.gathered)
    ((λ i. text ++ pool_text (codes "after the cells") (c.as_slice-in-PastCells.ensures.value i)) ∙ ap (λ taken. text ++ taken_text c.args.line taken) (sym c.in-PastCells.is))
    (c.put_pool-in-PastCells.ensures first text h)
