use Rattle.std.proofs.Common.{◌++◌, codes, subst}
use Rattle.text_output.specs.Writing.{Puts}
use Rattle.text_output.proofs.Gathering.{puts_both}
use Rattle.explain_who.specs.LineTexts.{counted}
use Rattle.explain_check.specs.LeftTexts.{kinds_text, lines_text}
use Rattle.explain_check.proofs.left_texts.put_left_in_all.Goals as goal

pub returns : goal.returns
returns g c =
    let sum = c.args.sum.now in
    let count = counted sum.bytes (codes "byte") in
    let kinds = kinds_text sum.areas sum.cells in
    subst (Puts (g.W.Write.contents c.args.writer.now) (g.W.Write.contents c.put_lines.new.writer) c.args.gathered.now c.put_lines.new.gathered) (λ i. codes "LEFT: " ++ count ++ codes " in " ++ kinds ++ lines_text (c.as_slice.ensures.value i))
    (puts_both _ _ _ _ _ _ (codes "LEFT: " ++ count ++ codes " in " ++ kinds) (lines_text c.as_slice.result.now)
    (puts_both _ _ _ _ _ _ (codes "LEFT: " ++ count ++ codes " in ") (kinds)
    (puts_both _ _ _ _ _ _ (codes "LEFT: " ++ count) (codes " in ")
    (puts_both _ _ _ _ _ _ (codes "LEFT: ") (count)
    c.put.ensures.puts
    c.put_count.ensures)
    c.put-2.ensures.puts)
    c.put_kinds.ensures)
    c.put_lines.ensures)
