use Rattle.std.proofs.Common.{◌∙◌}
use Rattle.storage_map.specs.Cells.{cell_pool}
use Rattle.explain_report.proofs.PoolRows.{pool_put}
use Rattle.explain_report.proofs.pool_rows.put_pool.Goals as goal

pub returns : goal.returns
returns g c =
    pool_put c.args.form (g.W.Write.contents c.args.writer.now) (g.W.Write.contents c.put_pool_row.new.writer) c.args.gathered.now c.put_pool_row.new.gathered
    (cell_pool c.args.storage.now c.args.id) c.as_bytes-text.result.now c.cell_pool_name-name.result.bytes c.cell_pool_settings-settings.result c.figures_of-figures.result
    (c.as_bytes-text.ensures.value ∙ c.as_str.ensures.value) c.cell_pool_name-name.ensures c.cell_pool_settings-settings.ensures c.figures_of-figures.ensures c.put_pool_row.ensures
