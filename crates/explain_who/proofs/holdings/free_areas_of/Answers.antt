use Rattle.subpool_storage.specs.Extents.{free_areas}
use Rattle.storage_core.specs.Meaning.{state_in_place}
use Rattle.explain_who.proofs.Walked.{room, free_areas_few}
use Rattle.explain_who.proofs.holdings.free_areas_of.Goals as goal

pub free_area_sums-requires : goal.free_area_sums-requires
free_area_sums-requires c = (c.args.subpool, 0, c.first_free_area.ensures)

pub both-requires-clause-total : goal.both-requires-clause-total
both-requires-clause-total c =
    let m = (state_in_place c.args.storage.now).subpools in
    (room 2097152 (free_areas m c.args.subpool) c.free_area_sums.result (free_areas_few m c.args.subpool) (c.free_area_sums.ensures c.args.subpool 0 c.first_free_area.ensures)).0

pub both-requires-clause-count : goal.both-requires-clause-count
both-requires-clause-count c =
    let m = (state_in_place c.args.storage.now).subpools in
    (room 2097152 (free_areas m c.args.subpool) c.free_area_sums.result (free_areas_few m c.args.subpool) (c.free_area_sums.ensures c.args.subpool 0 c.first_free_area.ensures)).1

pub returns : goal.returns
returns c = c.both.ensures 2097152 (free_areas (state_in_place c.args.storage.now).subpools c.args.subpool) (c.free_area_sums.ensures c.args.subpool 0 c.first_free_area.ensures)
