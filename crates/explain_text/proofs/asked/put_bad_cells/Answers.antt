use Rattle.std.specs.Prelude.{codes, decimal, ◌∷◌, []}
use Rattle.explain_text.specs.Pieces.{line}
use Rattle.explain_text.proofs.Alike.{alike}
use Rattle.explain_text.proofs.asked.put_bad_cells.Goals as goal

pub returns : goal.returns
returns g c =
    alike _ _ _ _ _ _
    (λ i. line
    (codes "a size is a multiple of 4 from 4 to 4096, and a count 1 to 4096; this asks for cells of " ∷ decimal c.args.b.size
    ∷ c.bytes_word.ensures i ∷ codes ", " ∷ decimal c.args.b.primary ∷ codes " at first and then "
    ∷ decimal (c.secondary_count.ensures i) ∷ [])) c.put_line.ensures.text
