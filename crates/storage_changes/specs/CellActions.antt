-- The records of a cell pool that is created, hands out a cell, gets another extent, gets a cell back, or is deleted.
-- Assembler Services Reference, CPOOL; Assembler Services Guide, "Virtual storage management", "Using the CPOOL macro".
use Rattle.std.specs.Prelude.{◌≡◌, ℕ, ◌+◌, ◌*◌, ◌/◌, ◌^◌, ◌≤◌, true, false, drop, List, [], ◌∷◌, ◌++◌, length}
use Rattle.run_set.specs.Runs.{Run}
use Rattle.vsm_model.specs.declared.Subpool.{Subpool}
use Rattle.vsm_model.specs.Areas.{Place, Inside, Fresh, Nowhere, address_of}
use Rattle.vsm_model.specs.Cells.{with_pool}
use Rattle.vsm_model.specs.Obtaining.{with_area}
use Rattle.vsm_model.specs.Regions.{among, doublewords, pages_for}
use Rattle.vsm_model.specs.State.{State}
use Rattle.cell_pool.specs.declared.settings.Extent.{Extent}
use Rattle.cell_pool.specs.Pools.{Pool, extended}
use Rattle.storage_changes.specs.PoolTable.{cell_pool_of}
use Rattle.storage_changes.specs.declared.record.Record.{Record}
use Rattle.storage_changes.specs.declared.record.Record.TheVariants.{CellPool as CellPoolRow, CellExtent, Cell}
use Rattle.subpool_storage.specs.Subpools.{Subpools, with_free}
use Rattle.storage_changes.specs.State.{StorageState}
use Rattle.storage_changes.specs.StorageActions.{run_of, take_records, take_fresh_records, give_back_records}
use Rattle.storage_changes.specs.StorageActions.{emptied_pages}

-- the first free cell of a cell pool is handed out, or a cell that is in use is the first free one
abbrev pub handed_out_records : ℕ → ℕ → List Record
handed_out_records id cell = Cell (record { pool = id; cell = cell; free = false }) ∷ []

abbrev pub given_back_records : ℕ → ℕ → List Record
given_back_records id cell = Cell (record { pool = id; cell = cell; free = true }) ∷ []

-- a cell pool has this number of further cells from an address on
abbrev pub extent_records : ℕ → ℕ → ℕ → List Record
extent_records id start count =
    CellExtent (record { pool = id; start = start; count = count; present = true }) ∷ []

-- The elements that an extent takes: one for each cell, and two of its own.
abbrev pub extent_blanks : ℕ → ℕ
extent_blanks count = count + 2

-- An area of this many doublewords is taken at its place,
abbrev pub area_records : Subpool → ℕ → Place → List Record
area_records p count (Inside d) = take_records p d count
area_records p count (Fresh page) = take_fresh_records p page count
area_records p count Nowhere = []

-- with this many blank elements,
abbrev pub area_blanks : Place → ℕ
area_blanks (Inside d) = 2
area_blanks (Fresh page) = 5
area_blanks Nowhere = 0

-- and these pages are assigned.
abbrev pub area_pages : ℕ → Place → Run
area_pages count (Inside d) = run_of 0 0
area_pages count (Fresh page) = run_of page (pages_for count)
area_pages count Nowhere = run_of 0 0

-- the area has its place in the subpool's free storage, or in unassigned pages
abbrev pub HasRoom : StorageState → Subpool → ℕ → Place → Type 0
HasRoom m p count (Inside d) =
    (d + count ≤ 2 ^ 29) × ((k : ℕ) → among d count k ≡ true → m.subpools.free p k ≡ true)
HasRoom m p count (Fresh page) =
    (page + pages_for count ≤ 2 ^ 20)
    × ((k : ℕ) → among page (pages_for count) k ≡ true → m.unassigned k ≡ true)
HasRoom m p count Nowhere = ⊥

-- the doublewords of an extent of this many cells
abbrev pub doublewords_for : Pool → ℕ → ℕ
doublewords_for p count = doublewords (count * p.settings.size)

-- Each of these extents is given back, with the pages that it empties once those before it, whose doublewords are then
-- free storage, are given back,
abbrev pub extents_given_back : Subpools → Subpool → ℕ → List Extent → List Record
extents_given_back m p size [] = []
extents_given_back m p size (x ∷ xs) =
    let count = doublewords (x.count * size) in
    let run = emptied_pages m p (x.start / 8) count in
    give_back_records p (x.start / 8) count run.start run.len
    ++ extents_given_back (with_free m p (run_of (x.start / 8) count) true) p size xs

-- after the cell pool's own record.
abbrev pub deleting_records : Subpools → Pool → List Record
deleting_records m p =
    CellPoolRow (record { pool = p.id; present = false })
    ∷ extents_given_back m p.settings.subpool p.settings.size p.extents

-- The most blank elements that this takes: four for each extent, and one that has to be left.
abbrev pub deleting_blanks : Pool → ℕ
deleting_blanks p = 4 * length p.extents + 1

-- the state in which a cell pool has the next cells, if the one that it hands out is its first free one,
abbrev pub with_handed_out : State → Pool → State
with_handed_out s p = with_pool s p.name (record (cell_pool_of p) { free = drop 1 p.cells })

-- the state in which a cell is its first free one,
abbrev pub with_given_back : State → Pool → ℕ → State
with_given_back s p cell = with_pool s p.name (record (cell_pool_of p) { free = cell ∷ p.cells })

-- and the state in which it has another extent at a place, whose first cell it handed out.
abbrev pub with_extended : State → Pool → ℕ → Place → State
with_extended s p count goes =
    with_handed_out (with_area s p.settings.subpool (doublewords_for p count) goes)
    (extended (address_of goes) count p)
