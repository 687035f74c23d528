use Rattle.std.proofs.Common.{sym, ap}
use Rattle.text_output.proofs.Gathering.{puts_none}
use Rattle.explain_reasons.specs.ToldPlaces.{no_second_room}
use Rattle.explain_text.proofs.Alike.{alike}
use Rattle.explain_reasons.proofs.rooms.put_no_second_room.Goals as goal

pub returns-in-Some : goal.returns-in-Some
returns-in-Some g c = alike _ _ _ _ _ _ (ap (no_second_room c.args.boundary) (sym c.in-Some.is)) c.put_no_room_on.ensures

pub returns-in-None : goal.returns-in-None
returns-in-None g c =
    alike _ _ _ _ _ _ (ap (no_second_room c.args.boundary) (sym c.in-None.is)) (puts_none (g.W.Write.contents c.args.writer.now) c.args.gathered.now)
