use Rattle.std.proofs.Common.{sym, ap, ◌∙◌, subst}
use Rattle.vsm_elements.specs.Store.{Store}
use Rattle.cell_pool.specs.CellPools.{by_id, IsCellPools}
use Rattle.storage_core.specs.Meaning.{state_in_place}
use Rattle.explain_who.proofs.CellPools.{met_by}
use Rattle.explain_who.proofs.cells.is_in_cells.Goals as goal

pub returns : goal.returns
returns c =
    let s = c.args.storage.now in
    let q = c.cell_pools.result in
    let S : Store → Type 0 = λ t. IsCellPools t q in
    let stands = subst S (sym c.elements.ensures) c.cell_pools.ensures.stands in
    met_by c.elements.result.now q (state_in_place s).subpools.cells c.overlaps_are_met.ensures (c.pools_are_one.ensures c.elements.result.now q stands)
    (c.cell_pools_are_named.ensures s.parts.elements s.parts.subpools s.held.stands.subpools)
    (λ id. ap (λ (t : Store). by_id t q id) c.elements.ensures ∙ c.cell_pools.ensures.pools id) c.args.address c.holds.result c.holds.ensures
