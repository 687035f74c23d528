use Rattle.std.proofs.Common.{◌++◌, List, ℕ, codes, subst}
use Rattle.text_output.specs.Writing.{Puts}
use Rattle.text_output.proofs.Gathering.{puts_both}
use Rattle.explain_text.specs.Json.{bytes_in}
use Rattle.explain_check.proofs.left_texts.put_cell.Goals as goal

pub returns-in-Some : goal.returns-in-Some
returns-in-Some g c =
    let words = codes ", a cell of cell pool " in
    rw c.in-Some.is
    (subst (λ (name : List ℕ). Puts (g.W.Write.contents c.args.writer.now) (g.W.Write.contents c.put_bytes_in.new.writer) c.args.gathered.now c.put_bytes_in.new.gathered (words ++ bytes_in c.args.form name))
    c.as_slice.ensures.value (puts_both _ _ _ _ _ _ words (bytes_in c.args.form c.as_slice.result.now) c.put.ensures.puts c.put_bytes_in.ensures))
