use Rattle.std.proofs.Common.{◌++◌, flat_map}
use Rattle.std.specs.Prelude.{option_map}
use Rattle.text_output.proofs.Gathering.{puts_both}
use Rattle.storage_map.specs.Cells.{cell_pool, extents_left, cells_left}
use Rattle.storage_map.specs.Lines.{cell_extent_line, cell_pool_line, free_cell_line}
use Rattle.storage_map.proofs.CellLines.{pool_put, pool_ends}
use Rattle.storage_map.proofs.cells.put_cell_pool.Goals as goal

pub put_cell_extents-requires-clause-end : goal.put_cell_extents-requires-clause-end
put_cell_extents-requires-clause-end g c =
    let s = c.args.storage.now in
    pool_ends (cell_pool s c.args.id) c.cell_pool_settings-settings.result (extents_left s c.first_cell_extent-extents.result) c.requires
    c.first_cell_extent-extents.ensures.end c.cell_pool_settings-settings.ensures c.first_cell_extent-extents.ensures.all

pub returns : goal.returns
returns g c =
    let s = c.args.storage.now in
    let w0 = g.W.Write.contents c.args.writer.now in
    let w1 = g.W.Write.contents c.put_cell_pool_line.new.writer in
    let w2 = g.W.Write.contents c.put_cell_extents.new.writer in
    let w3 = g.W.Write.contents c.put_free_cells.new.writer in
    let g0 = c.args.gathered.now in
    let g1 = c.put_cell_pool_line.new.gathered in
    let g2 = c.put_cell_extents.new.gathered in
    let g3 = c.put_free_cells.new.gathered in
    let settings = c.cell_pool_settings-settings.result in
    let header = option_map (λ h. h.items) c.cell_pool_header-header.result in
    let extents = extents_left s c.first_cell_extent-extents.result in
    let cells = cells_left s c.first_free_cell.result in
    let first = cell_pool_line c.cell_pool_name-name.result.bytes settings header in
    let second = flat_map (cell_extent_line settings.size) extents in
    pool_put w0 w3 g0 g3 (cell_pool s c.args.id) c.cell_pool_name-name.result.bytes settings header extents cells
    c.cell_pool_name-name.ensures c.cell_pool_settings-settings.ensures c.cell_pool_header-header.ensures c.first_cell_extent-extents.ensures.all c.first_free_cell.ensures.all
    (puts_both w0 w2 w3 g0 g2 g3 (first ++ second) (flat_map free_cell_line cells)
    (puts_both w0 w1 w2 g0 g1 g2 first second c.put_cell_pool_line.ensures c.put_cell_extents.ensures) c.put_free_cells.ensures)
