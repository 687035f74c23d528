use Rattle.std.specs.Prelude.{codes, decimal, ◌∷◌, []}
use Rattle.vsm_model.specs.Texts.{hexadecimal}
use Rattle.explain_text.specs.Pieces.{line}
use Rattle.explain_text.proofs.Alike.{alike}
use Rattle.explain_reasons.proofs.cells.put_extent.Goals as goal

pub returns : goal.returns
returns g c =
    alike _ _ _ _ _ _
    (λ i. line
    (codes "cell pool " ∷ c.args.name.now ∷ codes " has an extent of " ∷ decimal (c.extent_bytes.ensures.value i) ∷ codes " bytes at "
    ∷ hexadecimal 8 c.args.extent.start ∷ [])) c.put_line.ensures.text
