use Rattle.std.proofs.Common.{◌≡◌, sym, ◌∙◌}
use Rattle.cell_pool.specs.CellPools.{by_id}
use Rattle.cell_pool.specs.Pools.{uses}
use Rattle.storage_swap.specs.Storage.{state_of}
use Rattle.cell_plans.proofs.GivenCells.{free_unused, given_back}
use Rattle.cell_plans.proofs.SeenPools.{fact_of, some_there}
use Rattle.cell_plans.proofs.free.plan_free.Goals as goal

pub returns-then-in_use : goal.returns-then-in_use
returns-then-in_use c settings names_full sound =
    let storage = c.args.storage.now in
    let m = state_of storage in
    let id = c.in_ok-id.id in
    let pools = c.cell_pools-pools in
    let plan = c.plan_given_back in
    let (p, there) = some_there (m.subpools.cells id) c.in_ok-id.ensures.there in
    let used = fact_of (λ p. c.in_use.result ≡ uses p c.args.cell) (by_id storage.elements pools.result id) p (pools.ensures.pools id ∙ there) c.in_use.ensures in
    given_back settings names_full m c.args.name.now c.args.cell id p (c.in_ok-id.ensures.seen p there)
    plan.result plan.ensures.emptied plan.ensures.records plan.ensures.blanks plan.ensures.fresh plan.ensures.reply
    c.giving_back_cells_leads.ensures c.cell_pools_stay_well_formed.ensures.free
    (c.cell_pools_are_named.ensures storage.elements storage.subpools c.requires.stands.subpools) sound.sound (sym used ∙ c.if-in_use.true)

pub returns-else-in_use : goal.returns-else-in_use
returns-else-in_use c settings names_full sound =
    let storage = c.args.storage.now in
    let m = state_of storage in
    let id = c.in_ok-id.id in
    let pools = c.cell_pools-pools in
    let (p, there) = some_there (m.subpools.cells id) c.in_ok-id.ensures.there in
    let used = fact_of (λ p. c.in_use.result ≡ uses p c.args.cell) (by_id storage.elements pools.result id) p (pools.ensures.pools id ∙ there) c.in_use.ensures in
    free_unused settings names_full m c.args.name.now c.args.cell id p (c.in_ok-id.ensures.seen p there) (sym used ∙ c.if-in_use.false)
