use Rattle.std.proofs.Common.{[], sym, ◌∙◌}
use Rattle.std.proofs.lemmas.Bool.{cond-false, cond-true}
use Rattle.text_output.proofs.Gathering.{puts_none}
use Rattle.vsm_model.specs.Areas.{is_nowhere}
use Rattle.explain_reasons.specs.Places.{sides_place}
use Rattle.explain_reasons.specs.ToldPlaces.{no_room_text}
use Rattle.explain_text.proofs.Alike.{alike}
use Rattle.explain_reasons.proofs.rooms.put_lack.Goals as goal

pub returns-then-is_nowhere : goal.returns-then-is_nowhere
returns-then-is_nowhere g c =
    let r = c.args.sides.now in
    alike _ _ _ _ _ _ (sym (cond-true (is_nowhere (sides_place r)) (no_room_text r) [] (sym c.is_nowhere.ensures ∙ c.if-is_nowhere.true))) c.put_no_room.ensures

pub returns-else-is_nowhere : goal.returns-else-is_nowhere
returns-else-is_nowhere g c =
    let r = c.args.sides.now in
    alike _ _ _ _ _ _ (sym (cond-false (is_nowhere (sides_place r)) (no_room_text r) [] (sym c.is_nowhere.ensures ∙ c.if-is_nowhere.false)))
    (puts_none (g.W.Write.contents c.args.writer.now) c.args.gathered.now)
