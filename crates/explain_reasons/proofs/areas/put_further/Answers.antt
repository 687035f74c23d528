use Rattle.std.specs.Prelude.{codes, decimal, ◌*◌, ◌∷◌, []}
use Rattle.explain_text.specs.Pieces.{line}
use Rattle.explain_text.proofs.Alike.{alike}
use Rattle.explain_reasons.proofs.areas.put_further.Goals as goal

pub returns : goal.returns
returns g c =
    alike _ _ _ _ _ _
    (λ i. line
    (codes "a further extent has " ∷ decimal c.args.cells ∷ c.cells_word.ensures i ∷ decimal c.args.size ∷ codes " bytes: "
    ∷ decimal (c.from.ensures i * c.from-2.ensures i) ∷ codes " bytes" ∷ [])) c.put_line.ensures.text
