use Rattle.std.proofs.Common.{ℕ, List, ◌++◌, flat_map, sym, subst}
use Rattle.subpool_storage.specs.Order.{subpools_in_order}
use Rattle.storage_core.specs.Meaning.{state_in_place, state_of, settings_of}
use Rattle.text_output.specs.Writing.{Puts}
use Rattle.text_output.proofs.Gathering.{puts_both}
use Rattle.vsm_model.specs.declared.Subpool.{Subpool}
use Rattle.vsm_model.specs.CellPools.{CellPool}
use Rattle.vsm_model.specs.Map.{bytes_line, cell_pool_lines, numbers, pages_line, subpool_lines, task_lines}
use Rattle.storage_map.specs.Lines.{bytes_text, pages_text}
use Rattle.storage_map.specs.declared.counts.Totals.{Totals}
use Rattle.storage_map.proofs.Shown.{map_is}
use Rattle.storage_map.proofs.maps.put_map.Goals as goal

pub returns : goal.returns
returns g c =
    let s = c.args.storage.now in
    let w0 = g.W.Write.contents c.args.writer.now in
    let w1 = g.W.Write.contents c.put_tasks.new.writer in
    let w2 = g.W.Write.contents c.put_subpools.new.writer in
    let w3 = g.W.Write.contents c.put_cell_pools.new.writer in
    let w4 = g.W.Write.contents c.put_pages.new.writer in
    let w5 = g.W.Write.contents c.put_bytes.new.writer in
    let g0 = c.args.gathered.now in
    let g1 = c.put_tasks.new.gathered in
    let g2 = c.put_subpools.new.gathered in
    let g3 = c.put_cell_pools.new.gathered in
    let g4 = c.put_pages.new.gathered in
    let g5 = c.put_bytes.new.gathered in
    let tasks = flat_map (task_lines (state_of s)) (numbers 1 65) in
    let subpools = flat_map (λ (p : Subpool). subpool_lines (settings_of s) (state_of s) p.number p.owner) (subpools_in_order (state_in_place s).subpools) in
    let pools = flat_map (λ (row : List ℕ × CellPool). cell_pool_lines row.0 row.1) (state_of s).cell_pools in
    let pages = pages_line (settings_of s) (state_of s) in
    let bytes = bytes_line (settings_of s) (state_of s) in
    subst (Puts w0 w5 g0 g5) (sym (map_is (settings_of s) (state_in_place s) c.subpools_are_shown.ensures.subpools))
    (puts_both w0 w4 w5 g0 g4 g5 (tasks ++ subpools ++ pools ++ pages) bytes
    (puts_both w0 w3 w4 g0 g3 g4 (tasks ++ subpools ++ pools) pages
    (puts_both w0 w2 w3 g0 g2 g3 (tasks ++ subpools) pools
    (puts_both w0 w1 w2 g0 g1 g2 tasks subpools c.put_tasks.ensures c.put_subpools.ensures) c.put_cell_pools.ensures)
    (subst (λ (t : Totals). Puts w3 w4 g3 g4 (pages_text t)) c.totals-totals.ensures c.put_pages.ensures))
    (subst (λ (t : Totals). Puts w4 w5 g4 g5 (bytes_text t)) c.totals-totals.ensures c.put_bytes.ensures))
