use Rattle.std.proofs.Common.{◌*◌, refl, sym, ◌∙◌, true≢false}
use Rattle.storage_swap.specs.Storage.{state_of}
use Rattle.storage_plans.proofs.CellAreas.{meets_one, meets_none}
use Rattle.storage_plans.proofs.release.check_cells.Goals as goal

pub returns-then-holds-clause-err : goal.returns-then-holds-clause-err
returns-then-holds-clause-err c =
    let storage = c.args.storage.now in
    let area = c.args.area in
    let pools = c.cell_pools-pools in (
      refl,
      meets_one storage.elements pools.result (state_of storage).subpools.cells c.overlaps_are_met.ensures
          (c.pools_are_one.ensures storage.elements pools.result pools.ensures.stands)
          (c.cell_pools_are_named.ensures storage.elements storage.subpools c.requires.stands.subpools) pools.ensures.pools
          (8 * area.start) (8 * area.len) (c.holds.ensures.0 c.if-holds.true),
    )

pub returns-clause-ok : goal.returns-clause-ok
returns-clause-ok c =
    let storage = c.args.storage.now in
    let area = c.args.area in
    let pools = c.cell_pools-pools in
    meets_none storage.elements pools.result (state_of storage).subpools.cells c.overlaps_are_met.ensures
    (c.pools_are_one.ensures storage.elements pools.result pools.ensures.stands)
    (c.cell_pools_are_named.ensures storage.elements storage.subpools c.requires.stands.subpools) pools.ensures.pools
    (8 * area.start) (8 * area.len) (λ meets. true≢false (sym (c.holds.ensures.1 meets) ∙ c.if-holds.false))
