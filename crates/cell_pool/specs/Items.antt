-- How a cell pool is kept in a row and its stock.
--
-- The low bytes of a row's words are the subpool's number and its owner, and the rest says how far the extents reach.
-- Its list has three items of the name, one of the header and one of its end with the side, both counts and the cell
-- size, then the free cells. Its tables have the cells in use, under their addresses, the extents, under their numbers,
-- and the extents again, under their addresses.
use Rattle.std.specs.Prelude.{◌≡◌, ℕ, ◌%◌, ◌^◌, ◌≤◌, ◌<◌, List, [], ◌∷◌, length, drop, map, slice_index_or}
use Rattle.list_table.specs.Entries.{Entry, word}
use Rattle.vsm_model.specs.declared.Subpool.{Subpool}
use Rattle.cell_pool.specs.declared.label.Label.{Label}
use Rattle.cell_pool.specs.declared.settings.CellSettings.{CellSettings}
use Rattle.cell_pool.specs.declared.settings.Extent.{Extent}
use Rattle.cell_pool.specs.Names.{packed, spelled, location_in, header_in, AreTexts}
use Rattle.cell_pool.specs.Pool.{Pool, HasCells, cells_from}
use Rattle.cell_pool.specs.Notes.{AreNoted, AreNumbered}
use Rattle.cell_pool.specs.Places.{ArePlaced, AreSeparate}
use Rattle.cell_pool.specs.Reach.{AreWithin}

abbrev pub item : List (List ℕ) → ℕ → List ℕ
item items k = slice_index_or items k []

abbrev pub extent_of : List ℕ → Extent
extent_of ws = record { start = word ws 2; count = word ws 3 }

abbrev pub cell_of : List ℕ → ℕ
cell_of ws = word ws 0

abbrev pub label_of : List (List ℕ) → Label
label_of items = record { first = item items 0; second = item items 1; third = item items 2 }

-- the subpool that a row's words say, its number and its owner each a byte
abbrev pub subpool_in : List ℕ → Subpool
subpool_in ws = record { number = word ws 0 % 256; owner = word ws 1 % 256 }

-- what a row's words and the form say
abbrev pub settings_in : List ℕ → List ℕ → CellSettings
settings_in ws form = record {
  subpool = subpool_in ws;
  size = word form 5;
  primary = word form 4;
  secondary = word form 3;
  location = location_in form;
}

-- the pool of an id, a row's words, a name's words, a header and a form, extents and cells
abbrev pub made_of : ℕ → List ℕ → Label → List ℕ → List ℕ → List Extent → List ℕ → Pool
made_of id ws label front form extents cells = record {
  id = id;
  name = spelled label;
  settings = settings_in ws form;
  header = header_in front form;
  extents = extents;
  cells = cells;
}

-- the pool in a row; closed
unfoldable pub pool_of : Entry → Pool
pool_of e =
    made_of e.id e.words (label_of e.items) (item e.items 3) (item e.items 4) (map extent_of e.extents)
    (map cell_of (drop 5 e.items))

-- The row has an id of one word, its texts, cells of some size, and exactly the words of its name, which is text; its
-- extents are numbered, lie apart, are in their places and where its words say, its free cells are cells of these, and
-- the cells in use are noted.
pub record IsSound (e : Entry) : Type 0 where
  pub small : e.id < 2 ^ 32
  pub room : 5 ≤ length e.items
  pub size : 0 < (pool_of e).settings.size
  pub named : label_of e.items ≡ packed (pool_of e).name
  pub texts : AreTexts (pool_of e).name (pool_of e).header
  pub numbered : AreNumbered 0 e.extents
  pub separate : AreSeparate (pool_of e).settings.size (pool_of e).extents
  pub placed : ArePlaced (pool_of e) e.places
  pub within : AreWithin e.words (pool_of e).settings.size (pool_of e).extents
  pub cells : HasCells (pool_of e)
  pub noted : AreNoted (pool_of e) e.used

-- the item of a free cell
abbrev pub cell_item : ℕ → List ℕ
cell_item address = address ∷ 0 ∷ 0 ∷ 0 ∷ 0 ∷ 0 ∷ 0 ∷ []

-- those of an extent's cells
abbrev pub cell_items : ℕ → ℕ → ℕ → List (List ℕ)
cell_items size start count = map cell_item (cells_from size start count)
