-- What a caller can rely on when a release is accepted, by the storage before and after.
-- Assembler Services Guide, "Virtual storage management", "Explicit requests for virtual storage" and "Subpool
-- handling"; Assembler Services Reference, FREEMAIN and STORAGE.
use Rattle.std.specs.Prelude.{◌≡◌, ◌≢◌, ℕ, ◌+◌, ◌*◌, ◌/◌, ◌%◌, ◌<◌, ◌≤◌, ◌⊎◌, Bool, ◌&&◌, not, true, false, Some, None}
use Rattle.std.specs.Prelude.{List, All}
use Rattle.vsm_model.specs.declared.Subpool.{Subpool}
use Rattle.vsm_model.specs.declared.causes.Cause.{Cause}
use Rattle.vsm_model.specs.declared.limits.Settings.{Settings}
use Rattle.vsm_model.specs.declared.replies.Reply.{Reply}
use Rattle.vsm_model.specs.declared.replies.Reply.TheVariants.{Returned}
use Rattle.vsm_model.specs.declared.services.Obtain.{Obtain}
use Rattle.vsm_model.specs.declared.services.Release.{Release}
use Rattle.vsm_model.specs.Regions.{among, in_a_region, doublewords}
use Rattle.vsm_model.specs.CellPools.{CellPools, cell_pool_in, extent_doublewords, CellPool}
use Rattle.vsm_model.specs.State.{State}
use Rattle.vsm_model.specs.Causes.{answers_four}
use Rattle.vsm_model.specs.Services.{obtain, release, whole}
use Rattle.vsm_model.specs.Standing.{Outcome, Accepted, Refused}
use Rattle.vsm_model.specs.Step.{step}
use Rattle.vsm_model.specs.WellFormed.{IsWellFormed}
use Rattle.service_laws.specs.StorageRegisters.{ReturnCodeIsSet, ReturnCodeIsAll}

-- no extent of a cell pool has a byte of the area
abbrev pub HasNoCells : CellPools → ℕ → ℕ → Type 0
HasNoCells table address length =
    All
    (λ row. All
    (λ x. (address + length ≤ x.address) ⊎ (x.address + 8 * extent_doublewords row.1 x.cells ≤ address)) row.1.extents)
    table

-- From s to t, the area of a release was given back to its subpool.
pub record IsGivenBack (settings : Settings) (s t : State) (r : Release) : Type 0 where
  -- the number is one of private storage, the length isn't zero, and the area begins on a doubleword
  pub private : r.number ≤ 127
  pub some : 0 < r.length
  pub on_doubleword : r.address % 8 ≡ 0
  -- each doubleword of the rounded area was taken, in a page of the subpool that the task sees at the number, and none
  -- is one of a cell pool's
  pub owner : ℕ
  pub seen : s.sight s.current r.number ≡ Some owner
  pub in_region :
      (d : ℕ) → among (r.address / 8) (doublewords r.length) d ≡ true → in_a_region settings (d / 512) ≡ true
  pub was_taken : (d : ℕ) → among (r.address / 8) (doublewords r.length) d ≡ true → s.taken d ≡ true
  pub in_subpool :
      (d : ℕ) → among (r.address / 8) (doublewords r.length) d ≡ true →
      s.pages (d / 512) ≡ Some (record { number = r.number; owner = owner })
  pub no_cells : HasNoCells s.cell_pools r.address (8 * doublewords r.length)
  -- those of the area aren't taken now, and all others are as they were
  pub taken : (d : ℕ) → t.taken d ≡ (not (among (r.address / 8) (doublewords r.length) d) && s.taken d)
  -- a page of the subpool that is left without a taken doubleword is unassigned
  pub idle_leaves :
      (k : ℕ) → s.pages k ≡ Some (record { number = r.number; owner = owner }) →
      ((d : ℕ) → d / 512 ≡ k → t.taken d ≡ false) → t.pages k ≡ None
  -- a page in which a doubleword is taken stays with its subpool, so does each page of another subpool, and no page is
  -- assigned
  pub stays : (k : ℕ) (p : Subpool) (d : ℕ) → s.pages k ≡ Some p → d / 512 ≡ k → t.taken d ≡ true → t.pages k ≡ Some p
  pub others_stay :
      (k : ℕ) (p : Subpool) → s.pages k ≡ Some p → p ≢ record { number = r.number; owner = owner } → t.pages k ≡ Some p
  pub none_new : (k : ℕ) (p : Subpool) → t.pages k ≡ Some p → s.pages k ≡ Some p
  -- the bytes of a page that leaves are gone, and every other page keeps its bytes
  pub no_bytes : (a : ℕ) (p : Subpool) → s.pages (a / 4096) ≡ Some p → t.pages (a / 4096) ≡ None → t.bytes a ≡ None
  pub same_bytes : (a : ℕ) → t.pages (a / 4096) ≡ s.pages (a / 4096) → t.bytes a ≡ s.bytes a
  -- tasks, sight, cell pools and subpools stay, even an emptied subpool, and the return code is 0
  pub current : t.current ≡ s.current
  pub parents : t.parents ≡ s.parents
  pub same_subpools : t.subpools ≡ s.subpools
  pub same_sight : t.sight ≡ s.sight
  pub cell_pools : t.cell_pools ≡ s.cell_pools
  pub registers : ReturnCodeIsSet s t 0

abbrev pub ReleaseGivesTakenStorageBack : Type 0
ReleaseGivesTakenStorageBack =
    (settings : Settings) (names_full : Bool) (s t : State) (r : Release) (reply : Reply) →
    step settings names_full s (release r) ≡ Accepted t reply →
    (IsGivenBack settings s t r × (reply ≡ Returned 0))
    ⊎ ((r.conditional ≡ true) × (reply ≡ Returned 4) × ReturnCodeIsAll s t 4)

-- From s to t, the subpool of the current task at the number was emptied.
pub record IsEmptied (s t : State) (number : ℕ) : Type 0 where
  -- the number is one of private storage and not 0, and the task owns the subpool
  pub private : number ≤ 127
  pub some : 0 < number
  pub own : s.sight s.current number ≡ Some s.current
  -- its pages with their doublewords and bytes are gone
  pub its_pages : (k : ℕ) → s.pages k ≡ Some (record { number = number; owner = s.current }) → t.pages k ≡ None
  pub its_doublewords :
      (d : ℕ) → s.pages (d / 512) ≡ Some (record { number = number; owner = s.current }) → t.taken d ≡ false
  pub its_bytes :
      (a : ℕ) → s.pages (a / 4096) ≡ Some (record { number = number; owner = s.current }) → t.bytes a ≡ None
  -- those of all others stay
  pub other_pages :
      (k : ℕ) → s.pages k ≢ Some (record { number = number; owner = s.current }) → t.pages k ≡ s.pages k
  pub other_doublewords :
      (d : ℕ) → s.pages (d / 512) ≢ Some (record { number = number; owner = s.current }) → t.taken d ≡ s.taken d
  pub other_bytes :
      (a : ℕ) → s.pages (a / 4096) ≢ Some (record { number = number; owner = s.current }) → t.bytes a ≡ s.bytes a
  -- its cell pools are gone, and all others stay
  pub its_cell_pools :
      (name : List ℕ) (pool : CellPool) → cell_pool_in s.cell_pools name ≡ Some pool →
      pool.subpool ≡ record { number = number; owner = s.current } → cell_pool_in t.cell_pools name ≡ None
  pub other_cell_pools :
      (name : List ℕ) (pool : CellPool) → cell_pool_in s.cell_pools name ≡ Some pool →
      pool.subpool ≢ record { number = number; owner = s.current } → cell_pool_in t.cell_pools name ≡ Some pool
  pub no_new_cell_pool :
      (name : List ℕ) → cell_pool_in s.cell_pools name ≡ None → cell_pool_in t.cell_pools name ≡ None
  -- tasks, sight and subpools stay, even the emptied one, and the return code is 0
  pub current : t.current ≡ s.current
  pub parents : t.parents ≡ s.parents
  pub same_subpools : t.subpools ≡ s.subpools
  pub same_sight : t.sight ≡ s.sight
  pub registers : ReturnCodeIsSet s t 0

abbrev pub WholeReleaseEmptiesTheSubpool : Type 0
WholeReleaseEmptiesTheSubpool =
    (settings : Settings) (names_full : Bool) (s t : State) (number : ℕ) (reply : Reply) → IsWellFormed settings s →
    step settings names_full s (whole number) ≡ Accepted t reply → IsEmptied s t number × (reply ≡ Returned 0)

-- The outcome of a conditional form, by that of the form without it: return code 4 replaces some causes, and all else
-- is the same. Assembler Services Reference, STORAGE, COND; GETMAIN and FREEMAIN, EC, VC and RC.
abbrev pub IsConditionalForm : State → Outcome State Reply Cause → Outcome State Reply Cause → Type 0
IsConditionalForm s (Accepted t reply) with_condition = with_condition ≡ Accepted t reply
IsConditionalForm s (Refused cause) with_condition =
    ((answers_four cause ≡ false) × (with_condition ≡ Refused cause))
    ⊎ ((answers_four cause ≡ true)
    × ((t : State) × (with_condition ≡ Accepted t (Returned 4)) × ReturnCodeIsAll s t 4))

-- A conditional obtain differs from an unconditional one only by return code 4, and so does a conditional release.
abbrev pub ConditionalFormsDifferByFour : Type 0
ConditionalFormsDifferByFour =
    (settings : Settings) (names_full : Bool) (s : State) →
    ((o : Obtain) →
    IsConditionalForm s (step settings names_full s (obtain (record o { conditional = false })))
    (step settings names_full s (obtain (record o { conditional = true }))))
    × ((r : Release) →
    IsConditionalForm s (step settings names_full s (release (record r { conditional = false })))
    (step settings names_full s (release (record r { conditional = true }))))
