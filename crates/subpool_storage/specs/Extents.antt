-- The extents of a subpool, and its free areas: the longest runs of its pages and of its free doublewords, ascending.
-- Assembler Services Guide, "Virtual storage management", "Subpool handling".
use Rattle.std.specs.Prelude.{◌≡◌, ℕ, ◌^◌, ◌≤◌, false, List, map, length}
use Rattle.run_set.specs.Runs.{Run, AreRunsOf}
use Rattle.vsm_model.specs.declared.Subpool.{Subpool}
use Rattle.vsm_model.specs.Runs.{runs}
use Rattle.subpool_storage.specs.Subpools.{Subpools}

abbrev pub run_in : ℕ × ℕ → Run
run_in r = record { start = r.0; len = r.1 }

-- Closed, since they may be many. A page is below 2^20; any number of a set of runs is below 2^29.
unfoldable pub extents : Subpools → Subpool → List Run
extents m p = map run_in (runs (m.pages p) 0 (2 ^ 29))

-- They are the maximal runs of its pages, if each page is a number that a set of runs can have.
abbrev pub ExtentsAreRuns : Type 0
ExtentsAreRuns = (m : Subpools) (p : Subpool) → ((page : ℕ) → 2 ^ 29 ≤ page → m.pages p page ≡ false)
    → AreRunsOf (extents m p) (m.pages p)

-- There are not too many to be counted, and, if each of its pages is below some number, no more than that.
abbrev pub ExtentsAreFew : Type 0
ExtentsAreFew = (m : Subpools) (p : Subpool) → (length (extents m p) ≤ 2 ^ 29)
    × ((top : ℕ) → ((page : ℕ) → top ≤ page → m.pages p page ≡ false) → length (extents m p) ≤ top)

-- The free areas likewise, over doublewords.
unfoldable pub free_areas : Subpools → Subpool → List Run
free_areas m p = map run_in (runs (m.free p) 0 (2 ^ 29))

abbrev pub FreeAreasAreRuns : Type 0
FreeAreasAreRuns = (m : Subpools) (p : Subpool) → ((d : ℕ) → 2 ^ 29 ≤ d → m.free p d ≡ false)
    → AreRunsOf (free_areas m p) (m.free p)
