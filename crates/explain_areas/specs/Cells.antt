-- The cells in use, each with the line that got it.
-- Assembler Services Reference, CPOOL.
use Rattle.std.specs.Prelude.{◌≡◌, ◌/◌, ◌++◌, ℕ, List, filter, flat_map, map, unwrap_or, IsSome, IfSome}
use Rattle.storage_changes.specs.PoolTable.{cell_pool_of}
use Rattle.storage_core.specs.declared.storage.Storage.{Storage}
use Rattle.storage_map.specs.Cells.{cell_pool}
use Rattle.macro_statements.specs.Requests.{Act}
use Rattle.vsm_model.specs.declared.limits.Settings.{Settings}
use Rattle.vsm_model.specs.CellPools.{CellPool, cells_of}
use Rattle.vsm_model.specs.Cells.{is_in_use}
use Rattle.explain_standing.specs.Since.{got_since, machine_after}
use Rattle.explain_standing.specs.NumberMaps.{number_in}
use Rattle.explain_areas.specs.declared.cells.LineCell.{LineCell}
use Rattle.explain_areas.specs.declared.cells.PoolCells.{PoolCells}

-- the cells at these addresses that are in use in a cell pool; `lines` says which line got a cell
abbrev pub cells_among : (ℕ → ℕ) → List ℕ → CellPool → List ℕ → List LineCell
cells_among lines name pool cells =
    map
    (λ cell. record {
      pool = record { items = name };
      subpool = pool.subpool;
      start = cell;
      size = pool.size;
      line = lines cell;
    })
    (filter (is_in_use pool) cells)

abbrev pub cells_in_use : (ℕ → ℕ) → List ℕ → CellPool → List LineCell
cells_in_use lines name pool = cells_among lines name pool (cells_of pool)

-- The cells in use after these statements, the newest first: by the names of cell pools, in the order of their extents.
abbrev pub used_cells : Settings → List (ℕ × Act) → List LineCell
used_cells settings xs =
    flat_map (λ row. cells_in_use (λ cell. unwrap_or (got_since settings xs cell) 0) row.0 row.1)
    (machine_after settings xs).storage.cell_pools

-- ---- as the code adds them

-- The values are those of the cell pool with the id.
abbrev pub IsPoolOf : Storage → PoolCells → Type 0
IsPoolOf s p =
    IsSome (cell_pool s p.id)
    × IfSome (cell_pool s p.id) (λ its. (p.name.now.bytes ≡ its.name) × (p.settings ≡ its.settings))

-- Those of some addresses were added at which cells of the cell pool are in use.
abbrev pub AddsCells : Storage → PoolCells → List ℕ → List LineCell → List LineCell → Type 0
AddsCells s p cells old new =
    IfSome (cell_pool s p.id) (λ its. new ≡ old
    ++ cells_among (λ cell. unwrap_or (number_in p.lines.now (cell / 4)) 0) its.name (cell_pool_of its) cells)
