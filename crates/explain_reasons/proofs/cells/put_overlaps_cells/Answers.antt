use Rattle.std.proofs.Common.{◌≡◌, sym, ap, ◌∙◌}
use Rattle.cell_pool.specs.declared.settings.CellSettings.{CellSettings}
use Rattle.storage_changes.specs.PoolTable.{extent_of}
use Rattle.text_output.proofs.Gathering.{puts_none}
use Rattle.storage_core.specs.Meaning.{state_of}
use Rattle.storage_map.specs.Cells.{cell_pool}
use Rattle.explain_reasons.specs.Cells.{extent_text, overlaps_cells_text}
use Rattle.explain_text.proofs.Alike.{alike}
use Rattle.explain_reasons.proofs.Rows.{fact_of, some_pool}
use Rattle.explain_reasons.proofs.cells.put_overlaps_cells.Goals as goal

pub returns-in-Some : goal.returns-in-Some
returns-in-Some g c =
    let s = c.args.storage.now in
    let o = cell_pool s c.in-Some.id in
    let x = extent_of c.in-Some.extent in
    let (p, there) = some_pool o c.in-Some.ensures.there in
    let named = c.as_str.ensures.value ∙ fact_of (λ p. c.cell_pool_name-name.result.bytes ≡ p.name) o p there c.cell_pool_name-name.ensures in
    let sized = ap (λ (z : CellSettings). z.size) (fact_of (λ p. c.cell_pool_settings-size.result ≡ p.settings) o p there c.cell_pool_settings-size.ensures) in
    alike _ _ _ _ _ _
    ((λ i. extent_text (named i) (sized i) x)
    ∙ sym (fact_of (λ p. overlaps_cells_text (state_of s) c.args.r ≡ extent_text p.name p.settings.size x) o p there c.in-Some.ensures.found)) c.put_extent.ensures

pub returns-in-None : goal.returns-in-None
returns-in-None g c = alike _ _ _ _ _ _ (sym c.in-None.ensures.none) (puts_none (g.W.Write.contents c.args.writer.now) c.args.gathered.now)
