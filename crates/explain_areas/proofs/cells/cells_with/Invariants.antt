use Rattle.std.proofs.Common.{◌≡◌, ◌/◌, ◌++◌, flat_map, length}
use Rattle.std.specs.Prelude.{option_map, unwrap_or}
use Rattle.storage_changes.specs.TableOrder.{rows_behind}
use Rattle.storage_core.specs.Meaning.{state_of}
use Rattle.explain_standing.specs.NumberMaps.{number_in}
use Rattle.explain_areas.proofs.CellWalks.{row_cells}
use Rattle.explain_areas.proofs.cells.cells_with.Given as goal

abbrev pub invariant-loop-id : goal.invariant-loop-id
invariant-loop-id l =
    let table = (state_of l.storage).cell_pools in
    let row = row_cells (λ cell. unwrap_or (number_in l.lines (cell / 4)) 0) in
    l.cells.items ++ flat_map row (rows_behind table (option_map (λ n. n.bytes) l.after)) ≡ flat_map row table

abbrev pub decreases-loop-id : goal.decreases-loop-id
decreases-loop-id l = length (rows_behind (state_of l.storage).cell_pools (option_map (λ n. n.bytes) l.after))
