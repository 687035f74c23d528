use Rattle.text_output.proofs.Gathering.{puts_both}
use Rattle.explain_reasons.specs.ToldPlaces.{no_room_on, no_second_room}
use Rattle.explain_reasons.proofs.rooms.put_no_room.Goals as goal

pub returns : goal.returns
returns g c =
    let r = c.args.sides.now in
    puts_both (g.W.Write.contents c.args.writer.now) (g.W.Write.contents c.put_no_room_on.new.writer) (g.W.Write.contents c.put_no_second_room.new.writer)
    c.args.gathered.now c.put_no_room_on.new.gathered c.put_no_second_room.new.gathered (no_room_on r.boundary r.first) (no_second_room r.boundary r.second)
    c.put_no_room_on.ensures c.put_no_second_room.ensures
