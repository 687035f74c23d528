-- What a change of records leads to on the plain machine.
use Rattle.std.specs.Prelude.{◌≡◌, ℕ, ◌<◌, ◌≤◌, ◌&&◌, true, false, Bool, if◌then◌else◌, None, List, All}
use Rattle.run_set.specs.Runs.{Run, inside}
use Rattle.vsm_model.specs.declared.Subpool.{Subpool}
use Rattle.vsm_model.specs.declared.limits.Settings.{Settings}
use Rattle.vsm_model.specs.Search.{holds}
use Rattle.vsm_model.specs.State.{State}
use Rattle.vsm_model.specs.Subpools.{same_subpool, with_subpool}
use Rattle.vsm_model.specs.Releasing.{is_idle, without_taken}
use Rattle.subpool_storage.specs.Subpools.{is_there}
use Rattle.storage_changes.specs.State.{StorageState}
use Rattle.storage_changes.specs.Changes.{Change, Fit, overlay}
use Rattle.storage_changes.specs.Meaning.{model_of, IsSound}

-- The change fits, and leads to a sound storage that is this state on the plain machine.
pub record Leads (settings : Settings) (m : StorageState) (d : Change) (s : State) : Type 0 where
  pub fits : Fit m d
  pub sound : IsSound settings (overlay m d)
  pub leads : model_of (overlay m d) ≡ s

-- the state once the subpool is made, if it is new
abbrev pub with_new : State → Subpool → Bool → State
with_new s p is_new = if is_new then with_subpool s p.number p.owner else s

-- a new subpool belongs to the current task, which sees none of its number; any other exists
abbrev pub CanOwn : StorageState → Subpool → Bool → Type 0
CanOwn m p true =
    (p.owner ≡ m.tasks.current) × (p.number ≤ 127) × (m.subpools.sight p.owner p.number ≡ None)
CanOwn m p false = is_there m.subpools p ≡ true

-- the registers are from 0 to 15
abbrev pub AreRegisters : List (ℕ × ℕ) → Type 0
AreRegisters rows = All (λ row. row.0 < 16) rows

-- These are exactly the pages of the subpool that have no taken doubleword once the area is no longer taken.
abbrev pub AreIdle : State → Subpool → ℕ → ℕ → Run → Type 0
AreIdle s p d count run =
    (page : ℕ) → inside page run
    ≡ (holds (same_subpool p) (s.pages page) && is_idle (without_taken s d count).taken page)
