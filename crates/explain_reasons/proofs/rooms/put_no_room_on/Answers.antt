use Rattle.std.specs.Prelude.{codes, decimal, ◌*◌, ◌∷◌, []}
use Rattle.explain_text.specs.Pieces.{line}
use Rattle.explain_text.proofs.Alike.{alike}
use Rattle.explain_reasons.proofs.rooms.put_no_room_on.Goals as goal

pub returns : goal.returns
returns g c =
    alike _ _ _ _ _ _
    (λ i. line
    (codes "no room " ∷ c.side_word.ensures i ∷ c.largest_word.ensures i ∷ decimal (8 * c.from.ensures i)
    ∷ codes " bytes, and the longest run of unassigned pages has " ∷ decimal c.args.reason.longest_run ∷ [])) c.put_line.ensures.text
