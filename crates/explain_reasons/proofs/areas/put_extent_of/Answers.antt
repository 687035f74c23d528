use Rattle.std.proofs.Common.{◌≡◌, false, Option, Some, refl, sym, ap, subst, ◌∙◌}
use Rattle.std.specs.Option.{option_map}
use Rattle.cell_pool.specs.declared.settings.CellSettings.{CellSettings}
use Rattle.cell_pool.specs.Pools.{Pool}
use Rattle.storage_changes.specs.PoolTable.{cell_pool_of}
use Rattle.storage_core.specs.Meaning.{state_of}
use Rattle.storage_map.specs.Cells.{cell_pool}
use Rattle.vsm_model.specs.CellPools.{CellPool}
use Rattle.explain_reasons.proofs.Rows.{fact_of, some_pool}
use Rattle.explain_reasons.specs.Texts.{no_cell_text}
use Rattle.explain_reasons.specs.Told.{IsNoCell}
use Rattle.explain_reasons.specs.ToldPlaces.{area_text}
use Rattle.explain_reasons.proofs.areas.put_extent_of.Goals as goal

pub returns-in-Some : goal.returns-in-Some
returns-in-Some g c =
    let s = c.args.storage.now in
    let o = cell_pool s c.in-Some.id in
    let (p, there) = some_pool o c.in-Some.ensures.there in
    let built = fact_of (λ p. c.cell_pool_settings-built.result ≡ p.settings) o p there c.cell_pool_settings-built.ensures in
    let found = c.in-Some.ensures.found ∙ ap (λ (z : Option Pool). option_map cell_pool_of z) there in
    let (sides, searched, h) = c.put_extent_area.ensures in
    let its = c.cell_pool_settings-built.result in
    let text = area_text (state_of s) its.subpool.number sides (Some its) searched in
    let same = ap (λ (z : CellSettings). area_text (state_of s) z.subpool.number sides (Some z) searched) built in
    (text, subst (λ (z : Option CellPool). IsNoCell (state_of s) z false text) (sym found) (sides, searched, same), h)

pub returns-in-None : goal.returns-in-None
returns-in-None g c =
    (no_cell_text, subst (λ (p : Option CellPool). IsNoCell (state_of c.args.storage.now) p false no_cell_text) (sym c.in-None.ensures.found) refl, c.put_none_free.ensures)
