use Rattle.std.proofs.Common.{◌≡◌, Some, None, refl, ap}
use Rattle.cell_pool.specs.declared.settings.CellSettings.{CellSettings}
use Rattle.storage_changes.specs.PoolTable.{cell_pool_of, extent_of}
use Rattle.storage_map.specs.Cells.{cell_pool}
use Rattle.explain_who.specs.Taken.{cell_in}
use Rattle.explain_who.proofs.CellPools.{cell_is_in, each, fact_of, first_of}
use Rattle.explain_who.proofs.cells.cell_in.Goals as goal

pub returns-in-None : goal.returns-in-None
returns-in-None c =
    let o = cell_pool c.args.storage.now c.args.id in
    let size = c.cell_pool_settings-size.result.size in
    each o (λ p. None ≡ cell_in c.args.address (cell_pool_of p))
    (λ p there. cell_is_in p c.args.address size None None
    (ap (λ (z : CellSettings). z.size) (fact_of (λ p. c.cell_pool_settings-size.result ≡ p.settings) o p there c.cell_pool_settings-size.ensures))
    (fact_of (λ p. None ≡ first_of size c.args.address p.extents) o p there c.in-None.ensures.first) refl)

pub returns-in-Some : goal.returns-in-Some
returns-in-Some c =
    let o = cell_pool c.args.storage.now c.args.id in
    let size = c.cell_pool_settings-size.result.size in
    let x = c.in-Some.extent in
    each o (λ p. Some c.cell_with.result ≡ cell_in c.args.address (cell_pool_of p))
    (λ p there. cell_is_in p c.args.address size (Some x) (Some c.cell_with.result)
    (ap (λ (z : CellSettings). z.size) (fact_of (λ p. c.cell_pool_settings-size.result ≡ p.settings) o p there c.cell_pool_settings-size.ensures))
    (fact_of (λ p. Some (extent_of x) ≡ first_of size c.args.address p.extents) o p there c.in-Some.ensures.first)
    (ap Some c.cell_with.ensures))
