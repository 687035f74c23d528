-- Places among the extents and among the free cells of one cell pool.
use Rattle.std.specs.Prelude.{◌≡◌, ℕ, ◌-◌, ◌≤◌, List, map, take, drop}
use Rattle.vsm_elements.specs.Store.{Store}
use Rattle.vsm_elements.specs.Chain.{links, last_or, IsChain}
use Rattle.row_table.specs.RowTable.{rows, place_index, IsTable, IsPlace}
use Rattle.list_table.specs.Stocks.{items_of, rows_of}
use Rattle.cell_pool.specs.Items.{cell_of, extent_of}
use Rattle.cell_pool.specs.declared.settings.Extent.{Extent}
use Rattle.cell_pool.specs.declared.walks.ItemPlace.{ItemPlace}
use Rattle.cell_pool.specs.declared.walks.CellExtentPlace.{CellExtentPlace}
use Rattle.cell_pool.specs.declared.walks.CellPlace.{CellPlace}

-- the words of the items after the place, up to its end. No public clause cites it.
abbrev pub items_left : Store → ItemPlace → List (List ℕ)
items_left s w = take (w.end - w.index) (drop w.index (items_of (links s w.list)))

-- the place is in its list, after the item of this id, or before all of them; nor this
pub record StandsAt (s : Store) (w : ItemPlace) : Type 0 where
  pub chain : IsChain s w.list
  pub within : w.index ≤ w.end
  pub inside : w.end ≤ w.list.count
  pub behind : w.before ≡ last_or 0 (take w.index (links s w.list))

-- the place is before, between or after the extents of a pool, and these are after it
unfoldable pub IsExtentPlace : Store → CellExtentPlace → Type 0
IsExtentPlace s place = IsTable s place.extents × IsPlace s place.extents place.place

unfoldable pub extents_left : Store → CellExtentPlace → List Extent
extents_left s place = map extent_of (drop (place_index place.place) (rows_of (rows s place.extents)))

-- the place is before, between or after the free cells of a pool, and these are after it
unfoldable pub IsCellPlace : Store → CellPlace → Type 0
IsCellPlace s place = StandsAt s place.items

unfoldable pub cells_left : Store → CellPlace → List ℕ
cells_left s place = map cell_of (items_left s place.items)
