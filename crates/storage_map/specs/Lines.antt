-- The lines of runs, as the storage in place has them, and parts of the lines of tasks, subpools and cell pools.
-- Assembler Services Guide, "Virtual storage management", "Subpool handling".
use Rattle.std.specs.Prelude.{ℕ, ◌*◌, ◌==◌, if◌then◌else◌, Option, List, [], ◌++◌, codes, flat_map}
use Rattle.std.specs.Fmt.{decimal}
use Rattle.run_set.specs.Runs.{Run}
use Rattle.cell_pool.specs.declared.settings.Extent.{Extent}
use Rattle.cell_pool.specs.declared.settings.CellSettings.{CellSettings}
use Rattle.cell_pool.specs.Pools.{rounded}
use Rattle.storage_map.specs.declared.counts.Totals.{Totals}
use Rattle.vsm_model.specs.declared.Subpool.{Subpool}
use Rattle.vsm_model.specs.State.{State}
use Rattle.vsm_model.specs.Map.{area_line, field, header_text, hex_field, line, listed, location_text, numbers, sharers}

-- the line of an extent, whose run is of pages, and that of a free area, whose run is of doublewords
abbrev pub extent_line : Run → List ℕ
extent_line r = area_line (codes "  EXTENT") (4096 * r.start) (4096 * r.len)

abbrev pub free_line : Run → List ℕ
free_line r = area_line (codes "  FREE") (8 * r.start) (8 * r.len)

-- another sharer
abbrev pub sharer_text : ℕ → List ℕ
sharer_text task = codes "," ++ decimal task

-- the first line of a subpool
abbrev pub subpool_line : State → Subpool → List ℕ
subpool_line s p =
    line (field (codes " SUBPOOL") p.number ++ field (codes " OWNER") p.owner ++ codes " SHARERS "
    ++ listed (sharers s p.number p.owner))

-- the first line of a cell pool, with its name, what it was built with, and its header
abbrev pub cell_pool_line : List ℕ → CellSettings → Option (List ℕ) → List ℕ
cell_pool_line name settings header =
    line
    (codes " CELLPOOL "
    ++ name
    ++ field (codes " SUBPOOL") settings.subpool.number
    ++ field (codes " OWNER") settings.subpool.owner
    ++ field (codes " SIZE") settings.size
    ++ field (codes " PRIMARY") settings.primary
    ++ field (codes " SECONDARY") settings.secondary
    ++ location_text settings.location
    ++ header_text header)

-- the line of an extent of cells of a size, up to the end of its last doubleword, and that of a free cell
abbrev pub cell_extent_line : ℕ → Extent → List ℕ
cell_extent_line size x = area_line (codes "  EXTENT") x.start (rounded (x.count * size))

abbrev pub free_cell_line : ℕ → List ℕ
free_cell_line cell = line (codes "  FREECELL" ++ hex_field cell)

-- whether it is the current task
abbrev pub current_text : State → ℕ → List ℕ
current_text s task = if task == s.current then codes " CURRENT" else []

-- the first line of a task
abbrev pub task_line : State → ℕ → ℕ → List ℕ
task_line s task parent =
    line (field (codes " TASK") task ++ field (codes " PARENT") parent ++ current_text s task)

-- the words of the registers from the first one to before the end
abbrev pub register_words : State → ℕ → ℕ → ℕ → List ℕ
register_words s task first end = flat_map (λ r. hex_field (s.words task r)) (numbers first end)

-- the line of the pages
abbrev pub pages_text : Totals → List ℕ
pages_text t =
    line (field (codes " PAGES LOW") t.low_pages ++ field (codes " OF") t.low_size
    ++ field (codes " HIGH") t.high_pages ++ field (codes " OF") t.high_size)

-- and that of the bytes
abbrev pub bytes_text : Totals → List ℕ
bytes_text t = line (field (codes " BYTES TAKEN") t.taken ++ field (codes " FREE") t.free)
