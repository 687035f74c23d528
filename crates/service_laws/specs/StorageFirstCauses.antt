-- Why a service on storage is refused: for the first cause, in their order, whose condition holds, by the storage
-- before. Assembler Services Reference, "ABEND codes" of GETMAIN, FREEMAIN and STORAGE.
use Rattle.std.specs.Prelude.{◌≡◌, ◌≢◌, ℕ, ◌*◌, ◌/◌, ◌%◌, ◌<◌, ◌≤◌, ◌⊎◌, Bool, true, false, Some, None, List, length}
use Rattle.std.specs.Prelude.{All}
use Rattle.vsm_model.specs.declared.Subpool.{Subpool}
use Rattle.vsm_model.specs.declared.causes.Cause.{Cause}
use Rattle.vsm_model.specs.declared.causes.Cause.TheVariants.{UnsupportedSubpool, SubpoolNotAllowed, BadLength}
use Rattle.vsm_model.specs.declared.causes.Cause.TheVariants.{TooManyNames, NoStorage, Misaligned, NotInSubpool}
use Rattle.vsm_model.specs.declared.causes.Cause.TheVariants.{OverlapsFree, OverlapsCells, WholeOfZero, NotOwner}
use Rattle.vsm_model.specs.declared.causes.Cause.TheVariants.{NotAssigned}
use Rattle.vsm_model.specs.declared.limits.Settings.{Settings}
use Rattle.vsm_model.specs.declared.services.Obtain.{Obtain}
use Rattle.vsm_model.specs.declared.services.Release.{Release}
use Rattle.vsm_model.specs.Regions.{among, in_a_region, doublewords, regions_for, side}
use Rattle.vsm_model.specs.State.{State}
use Rattle.vsm_model.specs.Subpools.{seen_or_own}
use Rattle.vsm_model.specs.Areas.{spacing}
use Rattle.vsm_model.specs.Services.{obtain, release, whole, store, minimum, maximum}
use Rattle.vsm_model.specs.Standing.{Refused}
use Rattle.vsm_model.specs.Step.{step}
use Rattle.service_laws.specs.GivenBack.{HasNoCells}
use Rattle.service_laws.specs.StorageLowestAddress.{HasNoRoom}

-- Why an obtain is refused: each cause with its condition, and that those of the causes before it don't hold.
abbrev pub IsFirstOfObtain : Settings → Bool → State → Obtain → Cause → Type 0
IsFirstOfObtain settings names_full s o UnsupportedSubpool = (o.number ≡ 131) ⊎ (o.number ≡ 132)
IsFirstOfObtain settings names_full s o SubpoolNotAllowed = (127 < o.number) × (o.number ≢ 131) × (o.number ≢ 132)
IsFirstOfObtain settings names_full s o BadLength =
    (o.number ≤ 127) × ((minimum o.lengths ≡ 0) ⊎ (maximum o.lengths < minimum o.lengths))
IsFirstOfObtain settings names_full s o TooManyNames =
    (o.number ≤ 127) × (0 < minimum o.lengths) × (minimum o.lengths ≤ maximum o.lengths) × (names_full ≡ true)
-- no region on that side of the line has room for a length between the rounded bounds
IsFirstOfObtain settings names_full s o NoStorage =
    (o.number ≤ 127) × (0 < minimum o.lengths) × (minimum o.lengths ≤ maximum o.lengths) × (names_full ≡ false)
    × ((count : ℕ) → doublewords (minimum o.lengths) ≤ count → count ≤ doublewords (maximum o.lengths) →
    All (λ r. HasNoRoom r s (seen_or_own s o.number) count (spacing o.boundary))
    (regions_for settings (side settings o.location)))
IsFirstOfObtain settings names_full s o _ = ⊥

-- one of the count doublewords from first on lies outside both regions, or in a page of another subpool
abbrev pub HasForeign : Settings → State → Subpool → ℕ → ℕ → Type 0
HasForeign settings s p first count =
    (d : ℕ) × (among first count d ≡ true)
    × ((in_a_region settings (d / 512) ≡ false) ⊎ ((q : Subpool) × (s.pages (d / 512) ≡ Some q) × (q ≢ p)))

-- one of them lies in an unassigned page or isn't taken
abbrev pub HasFree : State → ℕ → ℕ → Type 0
HasFree s first count =
    (d : ℕ) × (among first count d ≡ true) × ((s.pages (d / 512) ≡ None) ⊎ (s.taken d ≡ false))

-- The release is of a length that isn't zero, at a doubleword, and in private storage.
pub record IsOfAnArea (r : Release) : Type 0 where
  pub private : r.number ≤ 127
  pub some : 0 < r.length
  pub on_doubleword : r.address % 8 ≡ 0

-- The task sees a subpool of this owner at the number, and no doubleword of the rounded area is outside it.
pub record IsItsOwn (settings : Settings) (s : State) (r : Release) (owner : ℕ) : Type 0 where
  pub seen : s.sight s.current r.number ≡ Some owner
  pub none_foreign :
      HasForeign settings s (record { number = r.number; owner = owner }) (r.address / 8) (doublewords r.length) → ⊥

-- Why a release is refused, likewise.
abbrev pub IsFirstOfRelease : Settings → State → Release → Cause → Type 0
IsFirstOfRelease settings s r UnsupportedSubpool = (r.number ≡ 131) ⊎ (r.number ≡ 132)
IsFirstOfRelease settings s r SubpoolNotAllowed = (127 < r.number) × (r.number ≢ 131) × (r.number ≢ 132)
IsFirstOfRelease settings s r BadLength = (r.number ≤ 127) × (r.length ≡ 0)
IsFirstOfRelease settings s r Misaligned = (r.number ≤ 127) × (0 < r.length) × (r.address % 8 ≢ 0)
IsFirstOfRelease settings s r NotInSubpool =
    IsOfAnArea r
    × ((s.sight s.current r.number ≡ None)
    ⊎ ((owner : ℕ) × (s.sight s.current r.number ≡ Some owner)
    × HasForeign settings s (record { number = r.number; owner = owner }) (r.address / 8) (doublewords r.length)))
IsFirstOfRelease settings s r OverlapsFree =
    IsOfAnArea r × ((owner : ℕ) × IsItsOwn settings s r owner) × HasFree s (r.address / 8) (doublewords r.length)
IsFirstOfRelease settings s r OverlapsCells =
    IsOfAnArea r × ((owner : ℕ) × IsItsOwn settings s r owner) × (HasFree s (r.address / 8) (doublewords r.length) → ⊥)
    × (HasNoCells s.cell_pools r.address (8 * doublewords r.length) → ⊥)
IsFirstOfRelease settings s r _ = ⊥

-- Why the release of a whole subpool is refused.
abbrev pub IsFirstOfWhole : State → ℕ → Cause → Type 0
IsFirstOfWhole s number UnsupportedSubpool = (number ≡ 131) ⊎ (number ≡ 132)
IsFirstOfWhole s number SubpoolNotAllowed = (127 < number) × (number ≢ 131) × (number ≢ 132)
IsFirstOfWhole s number WholeOfZero = number ≡ 0
IsFirstOfWhole s number NotInSubpool = (0 < number) × (number ≤ 127) × (s.sight s.current number ≡ None)
IsFirstOfWhole s number NotOwner =
    (0 < number) × (number ≤ 127) × ((owner : ℕ) × (s.sight s.current number ≡ Some owner) × (owner ≢ s.current))
IsFirstOfWhole s number _ = ⊥

-- Why a store is refused: one of its bytes doesn't lie in an assigned page.
abbrev pub IsFirstOfStore : State → ℕ → List ℕ → Cause → Type 0
IsFirstOfStore s address bytes NotAssigned =
    (a : ℕ) × (among address (length bytes) a ≡ true) × (s.bytes a ≡ None)
IsFirstOfStore s address bytes _ = ⊥

abbrev pub ObtainIsRefusedForTheFirstCause : Type 0
ObtainIsRefusedForTheFirstCause =
    (settings : Settings) (names_full : Bool) (s : State) (o : Obtain) (cause : Cause) →
    step settings names_full s (obtain o) ≡ Refused cause → IsFirstOfObtain settings names_full s o cause

abbrev pub ReleaseIsRefusedForTheFirstCause : Type 0
ReleaseIsRefusedForTheFirstCause =
    (settings : Settings) (names_full : Bool) (s : State) (r : Release) (cause : Cause) →
    step settings names_full s (release r) ≡ Refused cause → IsFirstOfRelease settings s r cause

abbrev pub WholeReleaseIsRefusedForTheFirstCause : Type 0
WholeReleaseIsRefusedForTheFirstCause =
    (settings : Settings) (names_full : Bool) (s : State) (number : ℕ) (cause : Cause) →
    step settings names_full s (whole number) ≡ Refused cause → IsFirstOfWhole s number cause

abbrev pub StoreIsRefusedForTheFirstCause : Type 0
StoreIsRefusedForTheFirstCause =
    (settings : Settings) (names_full : Bool) (s : State) (address : ℕ) (bytes : List ℕ) (cause : Cause) →
    step settings names_full s (store address bytes) ≡ Refused cause → IsFirstOfStore s address bytes cause
