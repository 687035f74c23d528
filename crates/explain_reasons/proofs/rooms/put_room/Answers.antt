use Rattle.std.proofs.Common.{sym, ap}
use Rattle.text_output.proofs.Gathering.{puts_none}
use Rattle.explain_reasons.specs.ToldPlaces.{room_text}
use Rattle.explain_text.proofs.Alike.{alike}
use Rattle.explain_reasons.proofs.rooms.put_room.Goals as goal

pub returns-in-Some : goal.returns-in-Some
returns-in-Some g c = alike _ _ _ _ _ _ (ap room_text (sym c.in-Some.is)) c.put_lack.ensures

pub returns-in-None : goal.returns-in-None
returns-in-None g c = alike _ _ _ _ _ _ (ap room_text (sym c.in-None.is)) (puts_none (g.W.Write.contents c.args.writer.now) c.args.gathered.now)
