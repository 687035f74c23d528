use Rattle.std.proofs.Common.{refl, arith}
use Rattle.storage_changes.specs.Changes.{change_of, change_building}
use Rattle.storage_swap.specs.Building.{pool_as}
use Rattle.storage_swap.proofs.ReserveLemmas.{reserves-parked}
use Rattle.storage_swap.proofs.BuildingLemmas.{id-is-new}
use Rattle.storage_swap.proofs.AsideLemmas.{aside-same}
use Rattle.storage_swap.proofs.building.make_building.Goals as goal

pub returns-clause-reserves : goal.returns-clause-reserves
returns-clause-reserves c =
    reserves-parked c.args.storage.now (change_building (pool_as c.args.pool.now c.park_pool-id.result.1) (change_of c.args.records.now c.args.blanks c.args.fresh)) c.args.fresh c.requires.stands c.requires.once c.requires.frameless c.requires.tables (λ a. refl)
    c.park_zeros-frames.new.self c.park_zeros-frames.result c.park_zeros-frames.ensures.frames c.park_zeros-frames.ensures.pages c.park_zeros-frames.ensures.tables c.park_zeros-frames.ensures.count c.park_zeros-frames.ensures.out
    c.park_pool-id.new.elements c.park_pool-id.result.0 c.park_pool-id.ensures.stands c.park_pool-id.ensures.subpools c.park_pool-id.ensures.moves (aside-same c.args.storage.now.elements c.park_pool-id.new.elements c.park_pool-id.ensures.as_many)
    c.building_records-records.new.elements c.building_records-records.result c.building_records-records.ensures.chain c.building_records-records.ensures.records c.building_records-records.ensures.owned
    c.set_aside.new.self c.args.blanks refl c.set_aside.ensures

pub returns-clause-absent : goal.returns-clause-absent
returns-clause-absent c = id-is-new c.pools_are_held.ensures c.args.storage.now _ (change_of c.args.records.now c.args.blanks c.args.fresh) _ (pool_as c.args.pool.now c.park_pool-id.result.1) (returns-clause-reserves c)

pub returns-clause-spare : goal.returns-clause-spare
returns-clause-spare c =
    omega (arith, c.park_pool-id.ensures.spares, c.building_records-records.ensures.spare, c.set_aside.ensures.spare)
