-- Why a service on a cell pool is refused: for the first cause, in their order, whose condition holds, by the state
-- before. Assembler Services Reference, CPOOL.
use Rattle.std.specs.Prelude.{◌≡◌, ◌≢◌, ◌⊎◌, ℕ, ◌*◌, ◌%◌, ◌<◌, ◌≤◌, Bool, true, false, Some, None, Option}
use Rattle.std.specs.Prelude.{List, [], length, Contains}
use Rattle.vsm_model.specs.declared.Subpool.{Subpool}
use Rattle.vsm_model.specs.declared.causes.Cause.{Cause}
use Rattle.vsm_model.specs.declared.causes.Cause.TheVariants.{UnsupportedSubpool, SubpoolNotAllowed, TooManyNames}
use Rattle.vsm_model.specs.declared.causes.Cause.TheVariants.{NoStorage, BadCells, CellPoolExists, TooManyCellPools}
use Rattle.vsm_model.specs.declared.causes.Cause.TheVariants.{NoCellPool, NotInUse}
use Rattle.vsm_model.specs.declared.limits.Residence.{Residence}
use Rattle.vsm_model.specs.declared.limits.Settings.{Settings}
use Rattle.vsm_model.specs.declared.services.Build.{Build}
use Rattle.vsm_model.specs.declared.services.Get.{Get}
use Rattle.vsm_model.specs.Search.{is_in}
use Rattle.vsm_model.specs.Regions.{Region, doublewords, regions_for, side}
use Rattle.vsm_model.specs.CellPools.{CellPool, cell_pool_in, cells_of}
use Rattle.vsm_model.specs.State.{State}
use Rattle.vsm_model.specs.Subpools.{seen_or_own}
use Rattle.vsm_model.specs.Services.{build, get, free, delete}
use Rattle.vsm_model.specs.Cells.{secondary_count}
use Rattle.vsm_model.specs.Standing.{Refused}
use Rattle.vsm_model.specs.Step.{step}
use Rattle.vsm_model.specs.WellFormed.{IsWellFormed}
use Rattle.service_laws.specs.StorageLowestAddress as area
use Rattle.service_laws.specs.Promises.{IsSeen}

-- the size of a cell is a multiple of 4 from 4 to 4096, and an extent has 1 to 4096 of them
pub record AreCells (size count : ℕ) : Type 0 where
  pub in_fours : size % 4 ≡ 0
  pub least : 4 ≤ size
  pub most : size ≤ 4096
  pub some : 1 ≤ count
  pub few : count ≤ 4096

-- In no region on this side of the line is there room for that many doublewords, neither in the free storage of the
-- subpool nor in unassigned pages.
abbrev pub HasNoRoom : Settings → Residence → State → Subpool → ℕ → Type 0
HasNoRoom settings location s p count =
    (r : Region) → Contains (regions_for settings location) r →
    area.HasNoRoom r s p count 1

-- the numbers of a BUILD are within their bounds
abbrev pub HasItsNumbers : Build → Type 0
HasItsNumbers b = AreCells b.size b.primary × AreCells b.size (secondary_count b)

-- Why a BUILD is refused: each cause with its condition, and that those of the causes before it don't hold.
abbrev pub IsFirstOfBuild : Settings → State → List ℕ → Build → Cause → Type 0
IsFirstOfBuild settings s name b UnsupportedSubpool = (b.number ≡ 131) ⊎ (b.number ≡ 132)
IsFirstOfBuild settings s name b SubpoolNotAllowed = (127 < b.number) × (b.number ≢ 131) × (b.number ≢ 132)
IsFirstOfBuild settings s name b BadCells = (b.number ≤ 127) × (HasItsNumbers b → ⊥)
IsFirstOfBuild settings s name b CellPoolExists =
    (b.number ≤ 127) × HasItsNumbers b × ((pool : CellPool) × (cell_pool_in s.cell_pools name ≡ Some pool))
IsFirstOfBuild settings s name b TooManyCellPools =
    (b.number ≤ 127) × HasItsNumbers b × (cell_pool_in s.cell_pools name ≡ None) × (256 ≤ length s.cell_pools)
IsFirstOfBuild settings s name b NoStorage =
    (b.number ≤ 127) × HasItsNumbers b × (cell_pool_in s.cell_pools name ≡ None) × (length s.cell_pools < 256)
    × HasNoRoom settings (side settings b.location) s (seen_or_own s b.number) (doublewords (b.primary * b.size))
IsFirstOfBuild settings s name b _ = ⊥

-- no cell pool of the name is seen
abbrev pub SeesNone : State → List ℕ → Type 0
SeesNone s name = (pool : CellPool) → IsSeen s name pool → ⊥

-- Why a GET is refused, likewise; if no cell is free, the conditional form returns 4.
abbrev pub IsFirstOfGet : Settings → Bool → State → List ℕ → Get → Cause → Type 0
IsFirstOfGet settings names_full s name g NoCellPool = SeesNone s name
IsFirstOfGet settings names_full s name g TooManyNames = ((pool : CellPool) × IsSeen s name pool) × (names_full ≡ true)
IsFirstOfGet settings names_full s name g NoStorage =
    (names_full ≡ false) × (g.conditional ≡ false)
    × ((pool : CellPool) × IsSeen s name pool × (pool.free ≡ [])
    × HasNoRoom settings pool.location s pool.subpool (doublewords (pool.secondary * pool.size)))
IsFirstOfGet settings names_full s name g _ = ⊥

-- Why a FREE is refused: no such cell pool is seen, or the address isn't that of one of its cells, or that cell is
-- free.
abbrev pub IsFirstOfFree : State → List ℕ → ℕ → Cause → Type 0
IsFirstOfFree s name cell NoCellPool = SeesNone s name
IsFirstOfFree s name cell NotInUse =
    (pool : CellPool) × IsSeen s name pool × ((is_in (cells_of pool) cell ≡ false) ⊎ (is_in pool.free cell ≡ true))
IsFirstOfFree s name cell _ = ⊥

-- Why a DELETE is refused.
abbrev pub IsFirstOfDelete : State → List ℕ → Cause → Type 0
IsFirstOfDelete s name NoCellPool = SeesNone s name
IsFirstOfDelete s name _ = ⊥

abbrev pub BuildIsRefusedForTheFirst : Type 0
BuildIsRefusedForTheFirst =
    (settings : Settings) (names_full : Bool) (s : State) (name : List ℕ) (header : Option (List ℕ)) (b : Build)
    (cause : Cause) →
    step settings names_full s (build name header b) ≡ Refused cause → IsFirstOfBuild settings s name b cause

-- In a well-formed state the numbers of a cell pool are within their bounds.
abbrev pub GetIsRefusedForTheFirst : Type 0
GetIsRefusedForTheFirst =
    (settings : Settings) (names_full : Bool) (s : State) (name : List ℕ) (g : Get) (cause : Cause) →
    IsWellFormed settings s →
    step settings names_full s (get name g) ≡ Refused cause → IsFirstOfGet settings names_full s name g cause

abbrev pub FreeIsRefusedForTheFirst : Type 0
FreeIsRefusedForTheFirst =
    (settings : Settings) (names_full : Bool) (s : State) (name : List ℕ) (cell : ℕ) (cause : Cause) →
    step settings names_full s (free name cell) ≡ Refused cause → IsFirstOfFree s name cell cause

abbrev pub DeleteIsRefusedForTheFirst : Type 0
DeleteIsRefusedForTheFirst =
    (settings : Settings) (names_full : Bool) (s : State) (name : List ℕ) (cause : Cause) →
    step settings names_full s (delete name) ≡ Refused cause → IsFirstOfDelete s name cause
