-- What becomes of storage when an extent of a cell pool is taken.
-- Assembler Services Guide, "Virtual storage management", "Using the CPOOL macro".
use Rattle.std.specs.Prelude.{◌≡◌, ℕ, Bool, ◌/◌, ◌%◌, ◌≤◌, ◌||◌, true, false, Some, None, is_some, All}
use Rattle.vsm_model.specs.declared.Subpool.{Subpool}
use Rattle.vsm_model.specs.Regions.{Region, among, within}
use Rattle.vsm_model.specs.CellPools.{CellPool, extent_doublewords, CellExtent}
use Rattle.vsm_model.specs.State.{State}

-- each extent of each cell pool has a cell
abbrev pub ExtentsHaveCells : State → Type 0
ExtentsHaveCells s = All (λ row. All (λ x. 1 ≤ x.cells) row.1.extents) s.cell_pools

-- a doubleword lies in an extent of a cell pool
abbrev pub lies_in : CellPool → ℕ → CellExtent → Bool
lies_in pool d x = among (x.address / 8) (extent_doublewords pool x.cells) d

-- From s to t, that many doublewords from the address on, which were free, are taken in pages of the subpool.
pub record AreaIsTaken (region : Region) (s t : State) (subpool : Subpool) (address count : ℕ) : Type 0 where
  pub on_doubleword : address % 8 ≡ 0
  -- each doubleword of the area lies in the region and wasn't taken before
  pub in_region : (d : ℕ) → among (address / 8) count d ≡ true → within region (d / 512) ≡ true
  pub was_free : (d : ℕ) → among (address / 8) count d ≡ true → s.taken d ≡ false
  -- those of the area are taken now, and all others are as they were
  pub taken : (d : ℕ) → t.taken d ≡ (among (address / 8) count d || s.taken d)
  -- the area lies in pages of the subpool
  pub in_subpool : (d : ℕ) → among (address / 8) count d ≡ true → t.pages (d / 512) ≡ Some subpool
  -- no assigned page changes its subpool, and each page that is new has a doubleword of the area
  pub others : (k : ℕ) (p : Subpool) → s.pages k ≡ Some p → t.pages k ≡ Some p
  pub needed :
      (k : ℕ) → s.pages k ≡ None → is_some (t.pages k) ≡ true →
      (d : ℕ) × (d / 512 ≡ k) × (among (address / 8) count d ≡ true)
  -- a page that is new holds zero bytes, and every other one keeps its bytes
  pub zero_bytes : (a : ℕ) → s.pages (a / 4096) ≡ None → is_some (t.pages (a / 4096)) ≡ true → t.bytes a ≡ Some 0
  pub same_bytes : (a : ℕ) → t.pages (a / 4096) ≡ s.pages (a / 4096) → t.bytes a ≡ s.bytes a
