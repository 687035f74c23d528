-- What is ahead of a walk over a subpool: the runs of its pages, and its free areas.
use Rattle.std.specs.Prelude.{◌≡◌, ℕ, ◌+◌, ◌/◌, ◌<◌, ◌≤◌, Bool, true, false, Option, None, List, drop}
use Rattle.run_set.specs.Runs.{Run, contains, Spaced}
use Rattle.vsm_model.specs.declared.Subpool.{Subpool}
use Rattle.subpool_storage.specs.Extents.{extents, free_areas}
use Rattle.storage_core.specs.declared.storage.Storage.{Storage}
use Rattle.storage_core.specs.declared.walks.ExtentPlace.{ExtentPlace}
use Rattle.storage_core.specs.declared.walks.FreeAreaPlace.{FreeAreaPlace}
use Rattle.storage_core.specs.Meaning.{state_in_place}
use Rattle.storage_core.specs.Walks.{IsExtentPlace, IsFreeAreaPlace}
use Rattle.explain_standing.specs.NumberMaps.{number_in}
use Rattle.explain_standing.specs.declared.number_map.NumberMap.{NumberMap}

-- From a number on the set has exactly these runs, none of which begins before it.
pub record IsAhead (set : ℕ → Bool) (rs : List Run) (low : ℕ) : Type 0 where
  pub spaced : Spaced low rs
  pub holds : (n : ℕ) → low ≤ n → contains n rs ≡ set n

-- From a number on the first run of the set is this one.
pub record IsNext (set : ℕ → Bool) (low : ℕ) (r : Run) : Type 0 where
  pub from : low ≤ r.start
  pub some : r.start < r.start + r.len
  pub before : (n : ℕ) → low ≤ n → n < r.start → set n ≡ false
  pub within : (n : ℕ) → r.start ≤ n → n < r.start + r.len → set n ≡ true
  pub past : set (r.start + r.len) ≡ false

-- The free areas of a subpool from a doubleword on follow a place, and its extents from a page on.
abbrev pub IsFreeFrom : Storage → Subpool → FreeAreaPlace → ℕ → Type 0
IsFreeFrom s p place d =
    (j : ℕ) × IsFreeAreaPlace s p place j
    × IsAhead ((state_in_place s).subpools.free p) (drop j (free_areas (state_in_place s).subpools p)) d

abbrev pub IsExtentFrom : Storage → Subpool → ExtentPlace → ℕ → Type 0
IsExtentFrom s p place k =
    (i : ℕ) × IsExtentPlace s p place i
    × IsAhead ((state_in_place s).subpools.pages p) (drop i (extents (state_in_place s).subpools p)) k

-- Each taken doubleword of a subpool has the line that a map has there, and no other doubleword has a line.
pub record AreLinesOf (lines : NumberMap) (s : Storage) (p : Subpool) (line_of : ℕ → Option ℕ) : Type 0 where
  pub elsewhere : (d : ℕ) → (state_in_place s).subpools.pages p (d / 512) ≡ false → line_of d ≡ None
  pub free : (d : ℕ) → (state_in_place s).subpools.free p d ≡ true → line_of d ≡ None
  pub taken :
      (d : ℕ) → (state_in_place s).subpools.pages p (d / 512) ≡ true →
      (state_in_place s).subpools.free p d ≡ false → line_of d ≡ number_in lines d
