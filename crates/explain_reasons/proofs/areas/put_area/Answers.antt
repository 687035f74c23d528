use Rattle.explain_reasons.proofs.AreaLemmas.{area_put, area_told, place_told}
use Rattle.explain_reasons.proofs.areas.put_area.Goals as goal

pub returns-clause-area : goal.returns-clause-area
returns-clause-area g c =
    area_told c.args.storage.now c.args.o c.args.extent c.sides_for-sides.result _ _ _ _
    (area_put c.args.storage.now c.args.o c.args.extent c.sides_for-sides.result
    (g.W.Write.contents c.args.writer.now) (g.W.Write.contents c.put_room.new.writer) (g.W.Write.contents c.put_further_extent.new.writer)
    (g.W.Write.contents c.put_seen.new.writer) (g.W.Write.contents c.put_place.new.writer)
    c.args.gathered.now c.put_room.new.gathered c.put_further_extent.new.gathered c.put_seen.new.gathered c.put_place.new.gathered
    c.put_room.ensures c.put_further_extent.ensures c.put_seen.ensures c.put_place.ensures)

pub returns-clause-place : goal.returns-clause-place
returns-clause-place g c =
    let found = c.sides_for-sides.ensures in
    place_told c.args.storage.now c.args.o c.args.extent c.sides_for-sides.result _ _ _ _ found.asked found.count found.place found.none
    (area_put c.args.storage.now c.args.o c.args.extent c.sides_for-sides.result
    (g.W.Write.contents c.args.writer.now) (g.W.Write.contents c.put_room.new.writer) (g.W.Write.contents c.put_further_extent.new.writer)
    (g.W.Write.contents c.put_seen.new.writer) (g.W.Write.contents c.put_place.new.writer)
    c.args.gathered.now c.put_room.new.gathered c.put_further_extent.new.gathered c.put_seen.new.gathered c.put_place.new.gathered
    c.put_room.ensures c.put_further_extent.ensures c.put_seen.ensures c.put_place.ensures)
