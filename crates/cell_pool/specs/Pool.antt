-- A cell pool as a plain value, and what the calls do to it.
use Rattle.std.specs.Prelude.{◌≡◌, ℕ, ◌+◌, ◌-◌, ◌*◌, ◌/◌, Bool, true, false, ◌&&◌, not, nat_lt}
use Rattle.std.specs.Prelude.{List, [], ◌∷◌, ◌++◌, length, take, drop, map, flat_map, Option}
use Rattle.std.specs.List.{range_with_len, list_any}
use Rattle.vsm_elements.specs.Store.{among, Distinct}
use Rattle.cell_pool.specs.declared.settings.CellSettings.{CellSettings}
use Rattle.cell_pool.specs.declared.settings.Extent.{Extent}

-- A cell pool: the id that names it, its name, what it was built with, its extents in the order in which they were
-- made, and its free cells in the order in which they are handed out.
pub record Pool : Type 0 where
  pub id : ℕ
  pub name : List ℕ
  pub settings : CellSettings
  pub header : Option (List ℕ)
  pub extents : List Extent
  pub cells : List ℕ

-- the cells of an extent, ascending: closed, since they may be many
unfoldable pub cells_from : ℕ → ℕ → ℕ → List ℕ
cells_from size start count = map (λ k. start + k * size) (range_with_len 0 count)

-- all cells of these extents
abbrev pub cells_of : ℕ → List Extent → List ℕ
cells_of size extents = flat_map (λ x. cells_from size x.start x.count) extents

-- no cell of an extent is one of a later extent
abbrev pub AreApart : ℕ → List Extent → Type 0
AreApart size [] = Unit {0}
AreApart size (x ∷ xs) =
    ((address : ℕ) → among address (cells_from size x.start x.count) ≡ true → among address (cells_of size xs) ≡ false)
    × AreApart size xs

-- The free cells are cells of the extents, each once, and the extents have no cell in common.
pub record HasCells (p : Pool) : Type 0 where
  pub once : Distinct p.cells
  pub inside : (address : ℕ) → among address p.cells ≡ true → among address (cells_of p.settings.size p.extents) ≡ true
  pub apart : AreApart p.settings.size p.extents

-- a cell of the pool that isn't free
abbrev pub uses : Pool → ℕ → Bool
uses p address = among address (cells_of p.settings.size p.extents) && not (among address p.cells)

-- a length in bytes, rounded up to whole doublewords
abbrev pub rounded : ℕ → ℕ
rounded len = 8 * ((len + 7) / 8)

-- The area and the extent have an address in common; the extent goes to the end of its last doubleword.
abbrev pub overlaps : ℕ → ℕ → ℕ → Extent → Bool
overlaps size start len x = nat_lt start (x.start + rounded (x.count * size)) && nat_lt x.start (start + len)

-- the area overlaps an extent of the pool
abbrev pub meets : ℕ → ℕ → Pool → Bool
meets start len p = list_any (overlaps p.settings.size start len) p.extents

-- What the calls do to a pool.

-- its first cell is handed out
abbrev pub without_first : Pool → Pool
without_first p = record p { cells = drop 1 p.cells }

-- a cell is put first
abbrev pub with_first : ℕ → Pool → Pool
with_first address p = record p { cells = address ∷ p.cells }

-- another extent, its cells after the free ones
abbrev pub extended : ℕ → ℕ → Pool → Pool
extended start count p = record p {
  extents = p.extents ++ record { start = start; count = count } ∷ [];
  cells = p.cells ++ cells_from p.settings.size start count;
}

-- the last extent is gone, with that many cells from the end of the free ones
abbrev pub retracted : ℕ → Pool → Pool
retracted count p = record p {
  extents = take (length p.extents - 1) p.extents;
  cells = take (length p.cells - count) p.cells;
}

-- The cells of the last extent are the end of the free ones: the pool is what `rest` is with one more extent.
pub record IsExtended (p : Pool) : Type 0 where
  pub rest : Pool
  pub last : Extent
  pub is : p ≡ extended last.start last.count rest
