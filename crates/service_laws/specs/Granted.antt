-- What a caller can rely on when an obtain is accepted, by the storage before and after; nothing is said of how an area
-- is found. Assembler Services Guide, "Virtual storage management", "Explicit requests for virtual storage" and
-- "Subpool handling"; Assembler Services Reference, GETMAIN and STORAGE.
use Rattle.std.specs.Prelude.{◌≡◌, ◌≢◌, ℕ, ◌+◌, ◌*◌, ◌/◌, ◌%◌, ◌<◌, ◌≤◌, ◌⊎◌, Bool, ◌||◌, true, false, Some, None}
use Rattle.std.specs.Prelude.{is_some}
use Rattle.vsm_model.specs.declared.Subpool.{Subpool}
use Rattle.vsm_model.specs.declared.causes.Cause.{Cause}
use Rattle.vsm_model.specs.declared.causes.Cause.TheVariants.{NoStorage}
use Rattle.vsm_model.specs.declared.limits.Residence.{Residence}
use Rattle.vsm_model.specs.declared.limits.Residence.TheVariants.{Above}
use Rattle.vsm_model.specs.declared.limits.Settings.{Settings}
use Rattle.vsm_model.specs.declared.replies.Reply.{Reply}
use Rattle.vsm_model.specs.declared.replies.Reply.TheVariants.{Obtained, Returned}
use Rattle.vsm_model.specs.declared.services.Lengths.TheVariants.{Fixed, Variable}
use Rattle.vsm_model.specs.declared.services.Obtain.{Obtain}
use Rattle.vsm_model.specs.Regions.{Region, among, within, low_region, high_region, side, doublewords}
use Rattle.vsm_model.specs.State.{State}
use Rattle.vsm_model.specs.Areas.{spacing}
use Rattle.vsm_model.specs.Services.{obtain, minimum, maximum}
use Rattle.vsm_model.specs.Standing.{Outcome, Accepted, Refused}
use Rattle.vsm_model.specs.Step.{step}
use Rattle.vsm_model.specs.WellFormed.{IsWellFormed}
use Rattle.service_laws.specs.StorageRegisters.{AddressIsSet, ReturnCodeIsAll}

-- From s to t, the current task sees this owner's subpool at the number: the one that it saw, or a new one of its own
-- if it saw none. All other subpools are as they were, and so is what each task sees at each other number. Assembler
-- Services Guide, "Virtual storage management", "Subpool handling".
pub record SubpoolIsThere (s t : State) (number owner : ℕ) : Type 0 where
  pub seen : t.sight s.current number ≡ Some owner
  pub there : t.subpools number owner ≡ true
  pub one_that_it_saw : (o : ℕ) → s.sight s.current number ≡ Some o → owner ≡ o
  pub else_its_own : s.sight s.current number ≡ None → owner ≡ s.current
  pub other_sight : (task n : ℕ) → (task ≢ s.current) ⊎ (n ≢ number) → t.sight task n ≡ s.sight task n
  pub other_subpools : (n o : ℕ) → (n ≢ number) ⊎ (o ≢ owner) → t.subpools n o ≡ s.subpools n o

-- An area on this side of the line lies in this region: below it in the low one, on either side in one of the two.
abbrev pub IsOnSide : Settings → Residence → Region → Type 0
IsOnSide settings residence region =
    (region ≡ low_region settings) ⊎ ((region ≡ high_region settings) × (residence ≡ Above))

-- From s to t, the area of that many bytes at the address, which was free, is taken in pages of the subpool.
pub record AreaIsTaken (settings : Settings) (line : Residence) (s t : State) (subpool : Subpool) (address given : ℕ) :
    Type 0 where
  -- each doubleword of the area lies in one region, and wasn't taken before
  pub region : Region
  pub on_side : IsOnSide settings line region
  pub in_region : (d : ℕ) → among (address / 8) (given / 8) d ≡ true → within region (d / 512) ≡ true
  pub was_free : (d : ℕ) → among (address / 8) (given / 8) d ≡ true → s.taken d ≡ false
  -- those of the area are taken now, and all others are as they were
  pub taken : (d : ℕ) → t.taken d ≡ (among (address / 8) (given / 8) d || s.taken d)
  -- the area lies in pages of the subpool
  pub in_subpool : (d : ℕ) → among (address / 8) (given / 8) d ≡ true → t.pages (d / 512) ≡ Some subpool
  -- no assigned page changes its subpool, and each page that is new has a doubleword of the area
  pub others : (k : ℕ) (p : Subpool) → s.pages k ≡ Some p → t.pages k ≡ Some p
  pub needed :
      (k : ℕ) → s.pages k ≡ None → is_some (t.pages k) ≡ true →
      (d : ℕ) × (d / 512 ≡ k) × (among (address / 8) (given / 8) d ≡ true)
  -- a page that is new holds zero bytes, and every other one keeps its bytes
  pub zero_bytes : (a : ℕ) → s.pages (a / 4096) ≡ None → is_some (t.pages (a / 4096)) ≡ true → t.bytes a ≡ Some 0
  pub same_bytes : (a : ℕ) → t.pages (a / 4096) ≡ s.pages (a / 4096) → t.bytes a ≡ s.bytes a

-- From s to t, an area of that many bytes at the address was granted.
pub record IsGranted (settings : Settings) (s t : State) (o : Obtain) (address given : ℕ) : Type 0 where
  -- the number is one of private storage, and the lengths aren't zero and are in order
  pub private : o.number ≤ 127
  pub some : 0 < minimum o.lengths
  pub ordered : minimum o.lengths ≤ maximum o.lengths
  -- the length is a multiple of 8 from the minimum to the maximum rounded up, and the area begins on the boundary
  pub long_enough : minimum o.lengths ≤ given
  pub no_longer : given < maximum o.lengths + 8
  pub whole : given % 8 ≡ 0
  pub on_boundary : address % (8 * spacing o.boundary) ≡ 0
  -- the area is in the subpool that the current task then sees at the number
  pub owner : ℕ
  pub subpool : SubpoolIsThere s t o.number owner
  pub area :
      AreaIsTaken settings (side settings o.location) s t (record { number = o.number; owner = owner }) address given
  -- its registers have the address, and tasks and cell pools are those from before
  pub registers : AddressIsSet s t o.lengths o.register address given
  pub current : t.current ≡ s.current
  pub parents : t.parents ≡ s.parents
  pub cell_pools : t.cell_pools ≡ s.cell_pools

abbrev pub ObtainGrantsFreeStorage : Type 0
ObtainGrantsFreeStorage =
    (settings : Settings) (names_full : Bool) (s t : State) (o : Obtain) (address given : ℕ) → IsWellFormed settings s →
    step settings names_full s (obtain o) ≡ Accepted t (Obtained address given) →
    IsGranted settings s t o address given × (names_full ≡ false)

-- An obtain that is accepted without an area is conditional, returns 4, and sets only register 15.
abbrev pub AnswerFourSetsRegister15Alone : Type 0
AnswerFourSetsRegister15Alone =
    (settings : Settings) (names_full : Bool) (s t : State) (o : Obtain) (reply : Reply) →
    step settings names_full s (obtain o) ≡ Accepted t reply →
    ((address : ℕ) × (given : ℕ) × (reply ≡ Obtained address given))
    ⊎ ((o.conditional ≡ true) × (reply ≡ Returned 4) × ReturnCodeIsAll s t 4)

-- Two outcomes from s differ only by register 0 of the current task.
abbrev pub DiffersByRegister0 : State → Outcome State Reply Cause → Outcome State Reply Cause → Type 0
DiffersByRegister0 s (Accepted t reply) (Accepted u other) =
    (other ≡ reply) × (u ≡ record t { words = u.words })
    × ((task r : ℕ) → (task ≢ s.current) ⊎ (r ≢ 0) → u.words task r ≡ t.words task r)
DiffersByRegister0 s (Refused cause) (Refused other) = other ≡ cause
DiffersByRegister0 s _ _ = ⊥

-- A fixed length is a variable one with equal bounds, except for register 0.
abbrev pub FixedIsVariableWithOneBound : Type 0
FixedIsVariableWithOneBound =
    (settings : Settings) (names_full : Bool) (s : State) (o : Obtain) (length : ℕ) →
    DiffersByRegister0 s (step settings names_full s (obtain (record o { lengths = Fixed length })))
    (step settings names_full s (obtain (record o { lengths = Variable length length })))

-- A request by bounds gets exactly what one for the length that it's given would get, except for register 0, and a
-- request for a greater length up to the rounded maximum is refused for lack of storage.
abbrev pub GreatestLengthIsGiven : Type 0
GreatestLengthIsGiven =
    (settings : Settings) (names_full : Bool) (s t : State) (o : Obtain) (address given : ℕ) →
    step settings names_full s (obtain o) ≡ Accepted t (Obtained address given) →
    DiffersByRegister0 s (step settings names_full s (obtain (record o { lengths = Fixed given })))
    (Accepted t (Obtained address given))
    × ((longer : ℕ) → given < longer → longer ≤ 8 * doublewords (maximum o.lengths) →
    step settings names_full s (obtain (record o { lengths = Fixed longer; conditional = false })) ≡ Refused NoStorage)
