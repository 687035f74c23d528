-- Cell pools of a storage, and places among their extents and their free cells.
-- Assembler Services Reference, CPOOL.
use Rattle.std.specs.Prelude.{◌≡◌, ℕ, List, Option}
use Rattle.cell_pool.specs.declared.settings.Extent.{Extent}
use Rattle.cell_pool.specs.Pools.{Pool}
use Rattle.cell_pool.specs.Walks as walks
use Rattle.cell_pool.specs.declared.walks.CellExtentPlace.{CellExtentPlace}
use Rattle.cell_pool.specs.declared.walks.CellPlace.{CellPlace}
use Rattle.storage_core.specs.declared.storage.Storage.{Storage}
use Rattle.storage_core.specs.Meaning.{state_in_place}

-- the cell pool of an id
abbrev pub cell_pool : Storage → ℕ → Option Pool
cell_pool s id = (state_in_place s).subpools.cells id

-- the place is before, between or after the extents of a cell pool, and these are after it
abbrev pub IsExtentPlace : Storage → CellExtentPlace → Type 0
IsExtentPlace s place = walks.IsExtentPlace s.parts.elements place

abbrev pub extents_left : Storage → CellExtentPlace → List Extent
extents_left s place = walks.extents_left s.parts.elements place

-- the place is before, between or after the free cells of a cell pool, and these are after it
abbrev pub IsCellPlace : Storage → CellPlace → Type 0
IsCellPlace s place = walks.IsCellPlace s.parts.elements place

abbrev pub cells_left : Storage → CellPlace → List ℕ
cells_left s place = walks.cells_left s.parts.elements place
