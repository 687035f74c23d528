-- The change of an obtain, by the place of its area. Assembler Services Guide, "Virtual storage management", "Explicit
-- requests for virtual storage"; Assembler Services Reference, GETMAIN and STORAGE.
use Rattle.std.specs.Prelude.{◌≡◌, ℕ, ◌*◌, Bool, not, List, ◌∷◌, ◌++◌, Option, Some, None}
use Rattle.run_set.specs.Runs.{Run}
use Rattle.vsm_model.specs.declared.Subpool.{Subpool}
use Rattle.vsm_model.specs.declared.limits.Settings.{Settings}
use Rattle.vsm_model.specs.declared.services.Lengths.{Lengths}
use Rattle.vsm_model.specs.declared.services.Obtain.{Obtain}
use Rattle.vsm_model.specs.Areas.{address_of}
use Rattle.vsm_model.specs.Causes.{first_cause}
use Rattle.vsm_model.specs.Obtaining.{longest, obtain_causes, place_for}
use Rattle.vsm_model.specs.Regions.{pages_for}
use Rattle.vsm_model.specs.Registers.{length_register, named_register}
use Rattle.vsm_model.specs.Subpools.{seen_or_own, sees_one}
use Rattle.storage_changes.specs.Meaning.{model_of}
use Rattle.storage_changes.specs.declared.record.Record.{Record}
use Rattle.storage_changes.specs.State.{StorageState}
use Rattle.storage_changes.specs.StorageActions.{own_records, take_records, take_fresh_records, register_records}
use Rattle.storage_changes.specs.StorageActions.{obtained_records, run_of}
use Rattle.storage_plans.specs.declared.areas.FoundArea.{FoundArea}
use Rattle.storage_plans.specs.declared.places.AreaPlace.{AreaPlace}
use Rattle.storage_plans.specs.declared.places.AreaPlace.TheVariants.{Inside, Fresh}
use Rattle.storage_plans.specs.Places.{place_of}

-- What is found for a request that has no cause: its subpool, the most doublewords that it can be given, and where they
-- are placed.
pub record IsFound (settings : Settings) (names_full : Bool) (m : StorageState) (o : Obtain) (found : FoundArea)
    : Type 0 where
  pub none : first_cause (obtain_causes settings names_full (model_of m) o) ≡ None
  pub subpool : found.subpool ≡ seen_or_own (model_of m) o.number
  pub is_new : found.is_new ≡ not (sees_one (model_of m) o.number)
  pub count : longest settings (model_of m) o ≡ Some found.count
  pub place : place_of (Some found.place) ≡ place_for settings (model_of m) o found.count

-- the address of the first byte of a place
abbrev pub place_address : AreaPlace → ℕ
place_address place = address_of (place_of (Some place))

-- the area is taken there,
abbrev pub place_records : Subpool → ℕ → AreaPlace → List Record
place_records p count (Inside doubleword) = take_records p doubleword count
place_records p count (Fresh page) = take_fresh_records p page count

-- with this many blank elements,
abbrev pub place_blanks : AreaPlace → ℕ
place_blanks (Inside doubleword) = 2
place_blanks (Fresh page) = 5

-- and these pages become assigned.
abbrev pub place_pages : ℕ → AreaPlace → Run
place_pages count (Inside doubleword) = run_of 0 0
place_pages count (Fresh page) = run_of page (pages_for count)

-- The registers that the request sets in addition to 15, which gets the return code, and 1, which gets the address: the
-- one that is named gets the address too, and register 0 the length of a variable request.
abbrev pub other_registers : Lengths → Option ℕ → ℕ → ℕ → List (ℕ × ℕ)
other_registers lengths named address length = length_register lengths length ++ named_register named address

abbrev pub reply_registers : Lengths → Option ℕ → ℕ → ℕ → List (ℕ × ℕ)
reply_registers lengths named address length =
    (15, 0) ∷ (1, address) ∷ other_registers lengths named address length

-- The area is taken, and these registers are set. One of free storage is taken together with register 1.
abbrev pub granted_records : StorageState → Subpool → ℕ → AreaPlace → List (ℕ × ℕ) → List Record
granted_records m p count (Inside doubleword) rows =
    obtained_records m p doubleword count (15, 0) (1, place_address (Inside doubleword)) rows
granted_records m p count (Fresh page) rows =
    take_fresh_records p page count ++ register_records m ((15, 0) ∷ (1, place_address (Fresh page)) ∷ rows)

-- The subpool is made first, if it is new.
abbrev pub obtain_records : StorageState → FoundArea → Obtain → List Record
obtain_records m found o =
    own_records found.subpool found.is_new
    ++ granted_records m found.subpool found.count found.place
    (other_registers o.lengths o.register (place_address found.place) (8 * found.count))
