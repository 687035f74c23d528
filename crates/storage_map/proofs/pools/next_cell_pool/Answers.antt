use Rattle.std.proofs.Common.{List, ℕ, Option, ◌≡◌, ◌∙◌, ap, sym, subst}
use Rattle.std.specs.Prelude.{option_map}
use Rattle.vsm_elements.specs.Store.{Store}
use Rattle.cell_pool.specs.CellPools.{by_id, IsCellPools}
use Rattle.storage_core.specs.Meaning.{state_in_place}
use Rattle.storage_map.proofs.CellsInOrder.{no_rows, next_row, next_there}
use Rattle.storage_map.proofs.pools.next_cell_pool.Goals as goal

pub returns-clause-none : goal.returns-clause-none
returns-clause-none c =
    let s = c.args.storage.now in
    let q = c.cell_pools.result in
    let low : Option (List ℕ) = option_map (λ n. n.now.bytes) c.args.behind in
    let pools = (state_in_place s).subpools.cells in
    let named = c.cell_pools_are_named.ensures s.parts.elements s.parts.subpools s.held.stands.subpools in
    let S : Store → Type 0 = λ t. IsCellPools t q in
    no_rows c.pools_are_one.ensures c.elements.result.now q pools (subst S (sym c.elements.ensures) c.cell_pools.ensures.stands)
    (λ id. ap (λ (t : Store). by_id t q id) c.elements.ensures ∙ c.cell_pools.ensures.pools id) low
    (c.rows_come_in_order.ensures pools low named) c.pool_after.result c.pool_after.ensures.none

pub returns-clause-there : goal.returns-clause-there
returns-clause-there c =
    let s = c.args.storage.now in
    let q = c.cell_pools.result in
    let low : Option (List ℕ) = option_map (λ n. n.now.bytes) c.args.behind in
    let pools = (state_in_place s).subpools.cells in
    let named = c.cell_pools_are_named.ensures s.parts.elements s.parts.subpools s.held.stands.subpools in
    let S : Store → Type 0 = λ t. IsCellPools t q in
    next_there c.pools_are_one.ensures c.elements.result.now q pools (subst S (sym c.elements.ensures) c.cell_pools.ensures.stands)
    (λ id. ap (λ (t : Store). by_id t q id) c.elements.ensures ∙ c.cell_pools.ensures.pools id) low
    (c.rows_come_in_order.ensures pools low named) c.pool_after.result c.pool_after.ensures.there

pub returns-clause-next : goal.returns-clause-next
returns-clause-next c =
    let s = c.args.storage.now in
    let q = c.cell_pools.result in
    let low : Option (List ℕ) = option_map (λ n. n.now.bytes) c.args.behind in
    let pools = (state_in_place s).subpools.cells in
    let named = c.cell_pools_are_named.ensures s.parts.elements s.parts.subpools s.held.stands.subpools in
    let S : Store → Type 0 = λ t. IsCellPools t q in
    next_row c.pools_are_one.ensures c.elements.result.now q pools (subst S (sym c.elements.ensures) c.cell_pools.ensures.stands)
    (λ id. ap (λ (t : Store). by_id t q id) c.elements.ensures ∙ c.cell_pools.ensures.pools id) low
    (c.rows_come_in_order.ensures pools low named) c.pool_after.result c.pool_after.ensures.next
