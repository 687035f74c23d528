use Rattle.std.proofs.Common.{◌∙◌}
use Rattle.storage_swap.specs.Storage.{state_of}
use Rattle.cell_plans.proofs.NamedPools.{are_counted}
use Rattle.cell_plans.proofs.build.pool_count.Goals as goal

pub returns : goal.returns
returns c =
    let storage = c.args.storage.now in
    let pools = c.cell_pools-pools in
    c.count.ensures
    ∙ are_counted storage.elements pools.result (state_of storage).subpools.cells c.rows_are_counted.ensures
    (c.pools_are_listed.ensures storage.elements pools.result pools.ensures.stands)
    (c.cell_pools_are_named.ensures storage.elements storage.subpools c.requires.subpools) pools.ensures.pools
