use Rattle.std.proofs.Common.{◌≡◌, Option, sym, ap, ◌∙◌}
use Rattle.std.specs.Option.{option_map}
use Rattle.cell_pool.specs.declared.settings.CellSettings.{CellSettings}
use Rattle.cell_pool.specs.Pools.{Pool}
use Rattle.storage_changes.specs.PoolTable.{cell_pool_of}
use Rattle.storage_core.specs.Meaning.{state_of}
use Rattle.storage_map.specs.Cells.{cell_pool}
use Rattle.explain_reasons.specs.Cells.{place_of_pool_text, pool_text}
use Rattle.explain_text.proofs.Alike.{alike}
use Rattle.explain_reasons.proofs.Rows.{fact_of, some_pool}
use Rattle.explain_reasons.proofs.pools.put_no_pool.Goals as goal

pub returns-in-Some : goal.returns-in-Some
returns-in-Some g c =
    let s = c.args.storage.now in
    let name = c.args.name.now in
    let o = cell_pool s c.in-Some.id in
    let (p, there) = some_pool o c.in-Some.ensures.there in
    alike _ _ _ _ _ _
    (ap (λ (z : CellSettings). place_of_pool_text (state_of s) name z.subpool) (fact_of (λ p. c.cell_pool_settings.result ≡ p.settings) o p there c.cell_pool_settings.ensures)
    ∙ ap (λ (z : Option Pool). pool_text (state_of s) name (option_map cell_pool_of z)) (sym there)
    ∙ ap (pool_text (state_of s) name) (sym c.in-Some.ensures.found)) c.put_place_of_pool.ensures

pub returns-in-None : goal.returns-in-None
returns-in-None g c =
    alike _ _ _ _ _ _ (ap (pool_text (state_of c.args.storage.now) c.args.name.now) (sym c.in-None.ensures.found)) c.put_missing.ensures
