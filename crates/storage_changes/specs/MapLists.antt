-- The lists that a map shows, of the plain machine and of the storage in place.
-- Assembler Services Guide, "Virtual storage management", "Subpool handling".
use Rattle.std.specs.Prelude.{◌≡◌, ℕ, ◌+◌, ◌^◌, ◌<◌, true, not, ◌&&◌, is_some, List, map, flat_map, slice_get, Some}
use Rattle.run_set.specs.Runs.{Run, AreRunsOf}
use Rattle.subpool_set.specs.Pools as pools
use Rattle.subpool_storage.specs.Extents as in_place
use Rattle.subpool_storage.specs.Order.{subpools_in_order}
use Rattle.storage_changes.specs.State.{StorageState}
use Rattle.storage_changes.specs.Meaning.{model_of, IsSound}
use Rattle.vsm_model.specs.declared.Subpool.{Subpool}
use Rattle.vsm_model.specs.declared.limits.Settings.{Settings}
use Rattle.vsm_model.specs.Regions.{Region, settings_valid, within}
use Rattle.vsm_model.specs.Areas as plain
use Rattle.vsm_model.specs.Runs.{runs}
use Rattle.vsm_model.specs.State.{State}
use Rattle.vsm_model.specs.Map.{ascending_regions, numbers, sharers, subpool_lines}

-- a run as its first number and how many numbers it has
abbrev pub pair_of : Run → ℕ × ℕ
pair_of r = (r.start, r.len)

-- The extents of a subpool are the longest runs of its pages in the region below the line, and then those above it;
abbrev pub ExtentsAreShown : Type 0
ExtentsAreShown = (settings : Settings) (m : StorageState) (p : Subpool) → settings_valid settings ≡ true
    → IsSound settings m
    → flat_map (plain.extents (model_of m) p) (ascending_regions settings)
    ≡ map pair_of (in_place.extents m.subpools p)

-- its free areas likewise, over doublewords.
abbrev pub FreeAreasAreShown : Type 0
FreeAreasAreShown = (settings : Settings) (m : StorageState) (p : Subpool) → settings_valid settings ≡ true
    → IsSound settings m
    → flat_map (plain.free_areas (model_of m) p) (ascending_regions settings)
    ≡ map pair_of (in_place.free_areas m.subpools p)

-- An extent ends before the last page that is possible, and a free area before the last doubleword.
abbrev pub ExtentsEndInRegions : Type 0
ExtentsEndInRegions = (settings : Settings) (m : StorageState) (p : Subpool) (i : ℕ) (r : Run)
    → settings_valid settings ≡ true → IsSound settings m
    → slice_get (in_place.extents m.subpools p) i ≡ Some r → r.start + r.len < 2 ^ 20

abbrev pub FreeAreasEndInRegions : Type 0
FreeAreasEndInRegions = (settings : Settings) (m : StorageState) (p : Subpool) (i : ℕ) (r : Run)
    → settings_valid settings ≡ true → IsSound settings m
    → slice_get (in_place.free_areas m.subpools p) i ≡ Some r → r.start + r.len < 2 ^ 29

-- The tasks that see a subpool and aren't its owner are the same.
abbrev pub SharersAreShown : Type 0
SharersAreShown = (m : StorageState) (number owner : ℕ)
    → sharers (model_of m) number owner ≡ pools.sharers m.subpools.sight number owner

-- The lines of all subpools are those of the subpools that exist, in their order.
abbrev pub SubpoolsAreShown : Type 0
SubpoolsAreShown = (settings : Settings) (m : StorageState)
    → flat_map (λ number. flat_map (subpool_lines settings (model_of m) number) (numbers 1 65)) (numbers 0 128)
    ≡ flat_map (λ p. subpool_lines settings (model_of m) p.number p.owner) (subpools_in_order m.subpools)

-- The longest runs of unassigned pages of a region,
abbrev pub unassigned_in : State → Region → List (ℕ × ℕ)
unassigned_in s r = runs (λ k. within r k && not (is_some (s.pages k))) r.first r.count

-- and those that the storage in place has: closed, since they may be many.
unfoldable pub unassigned_runs : StorageState → List Run
unassigned_runs m = map in_place.run_in (runs m.unassigned 0 (2 ^ 29))

-- They are those of the region below the line, and then those above it;
abbrev pub UnassignedAreShown : Type 0
UnassignedAreShown = (settings : Settings) (m : StorageState) → settings_valid settings ≡ true → IsSound settings m
    → flat_map (unassigned_in (model_of m)) (ascending_regions settings) ≡ map pair_of (unassigned_runs m)

-- none ends past the last page that is possible;
abbrev pub UnassignedEndInRegions : Type 0
UnassignedEndInRegions = (settings : Settings) (m : StorageState) (i : ℕ) (r : Run) → settings_valid settings ≡ true
    → IsSound settings m → slice_get (unassigned_runs m) i ≡ Some r → r.start + r.len < 2 ^ 20

-- and there is no other list of maximal runs of the unassigned pages.
abbrev pub UnassignedAreOne : Type 0
UnassignedAreOne = (m : StorageState) (rs : List Run) → AreRunsOf rs m.unassigned → rs ≡ unassigned_runs m
