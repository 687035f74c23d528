use Rattle.std.proofs.Common.{◌++◌, List, ℕ, codes, subst}
use Rattle.text_output.specs.Writing.{Puts}
use Rattle.explain_text.specs.Json.{bytes_in}
use Rattle.explain_check.proofs.found_texts.put_home.Goals as goal

pub returns-in-FreeCell : goal.returns-in-FreeCell
returns-in-FreeCell g c =
    rw c.in-FreeCell.is
    (subst (λ (name : List ℕ). Puts (g.W.Write.contents c.args.writer.now) (g.W.Write.contents c.put_name-in-FreeCell.new.writer) c.args.gathered.now c.put_name-in-FreeCell.new.gathered (codes "in a free cell of cell pool " ++ bytes_in c.args.form name))
    c.as_slice-in-FreeCell.ensures.value c.put_name-in-FreeCell.ensures)
