use Rattle.subpool_storage.specs.Extents.{extents}
use Rattle.storage_core.specs.Meaning.{state_in_place}
use Rattle.explain_who.proofs.Walked.{room, extents_few}
use Rattle.explain_who.proofs.holdings.extents_of.Goals as goal

pub extent_sums-requires : goal.extent_sums-requires
extent_sums-requires c = (c.args.subpool, 0, c.first_extent.ensures)

pub both-requires-clause-total : goal.both-requires-clause-total
both-requires-clause-total c =
    let m = (state_in_place c.args.storage.now).subpools in
    (room 4096 (extents m c.args.subpool) c.extent_sums.result (extents_few m c.args.subpool) (c.extent_sums.ensures c.args.subpool 0 c.first_extent.ensures)).0

pub both-requires-clause-count : goal.both-requires-clause-count
both-requires-clause-count c =
    let m = (state_in_place c.args.storage.now).subpools in
    (room 4096 (extents m c.args.subpool) c.extent_sums.result (extents_few m c.args.subpool) (c.extent_sums.ensures c.args.subpool 0 c.first_extent.ensures)).1

pub returns : goal.returns
returns c = c.both.ensures 4096 (extents (state_in_place c.args.storage.now).subpools c.args.subpool) (c.extent_sums.ensures c.args.subpool 0 c.first_extent.ensures)
