-- What the plan of a request leads to on the plain machine. Assembler Services Guide, "Virtual storage management",
-- "Explicit requests for virtual storage" and "Subpool handling"; Assembler Services Reference, STORAGE, GETMAIN and
-- FREEMAIN.
use Rattle.std.specs.Prelude.{◌≡◌, ℕ, ◌+◌, ◌^◌, ◌≤◌, Bool, true, false, IfSome, Result, Ok, Err}
use Rattle.run_set.specs.Runs.{Run, inside}
use Rattle.vsm_model.specs.declared.causes.Cause.{Cause}
use Rattle.vsm_model.specs.declared.limits.Settings.{Settings}
use Rattle.vsm_model.specs.declared.replies.Reply.{Reply}
use Rattle.vsm_model.specs.Services.{Service}
use Rattle.vsm_model.specs.Standing.{Accepted, Refused}
use Rattle.vsm_model.specs.Step.{step}
use Rattle.subpool_storage.specs.Subpools.{is_there}
use Rattle.storage_changes.specs.State.{StorageState}
use Rattle.storage_changes.specs.Changes.{Change, change_from, Fit, overlay}
use Rattle.storage_changes.specs.Meaning.{model_of, IsSound}
use Rattle.storage_plans.specs.declared.plan.StoragePlan.{StoragePlan}

-- the change of its records after those that empty its subpool, if it has one, with its blank elements, and frames of
-- zeros for the pages that become assigned
abbrev pub change_in : StorageState → StoragePlan → Change
change_in m plan = change_from m.subpools plan.emptied plan.records.now.items plan.blanks plan.fresh

-- each page of the run becomes assigned by the change
abbrev pub Assigns : StorageState → Change → Run → Type 0
Assigns m d run = (page : ℕ) → inside page run ≡ true → (overlay m d).unassigned page ≡ false

-- and no page that isn't of the run
abbrev pub AssignsOnly : StorageState → Change → Run → Type 0
AssignsOnly m d run =
    (page : ℕ) → m.unassigned page ≡ true → (overlay m d).unassigned page ≡ false → inside page run ≡ true

-- The service is accepted with this reply, in the state that the change leads to. The change fits, and leads to a sound
-- storage.
pub record IsAccepted (settings : Settings) (names_full : Bool) (m : StorageState) (x : Service) (d : Change)
    (reply : Reply) : Type 0 where
  pub accepted : step settings names_full (model_of m) x ≡ Accepted (model_of (overlay m d)) reply
  pub fits : Fit m d
  pub sound : IsSound settings (overlay m d)

-- The service is accepted with the plan's reply, in the state that the plan's change leads to. The change fits, and
-- leads to a sound storage, in which each page that it has a frame for became assigned.
pub record CarriesOut (settings : Settings) (names_full : Bool) (m : StorageState) (x : Service) (plan : StoragePlan)
    : Type 0 where
  pub accepted : step settings names_full (model_of m) x ≡ Accepted (model_of (overlay m (change_in m plan))) plan.reply
  pub fits : Fit m (change_in m plan)
  pub sound : IsSound settings (overlay m (change_in m plan))
  pub there : IfSome plan.emptied (λ p. is_there m.subpools p ≡ true)
  pub few : plan.blanks ≤ 5
  pub range : plan.fresh.start + plan.fresh.len ≤ 2 ^ 20
  pub unassigned : (page : ℕ) → inside page plan.fresh ≡ true → m.unassigned page ≡ true
  pub assigned : Assigns m (change_in m plan) plan.fresh

-- A service was planned; or it's refused for this cause.
abbrev pub IsPlanned : Settings → Bool → StorageState → Service → Result StoragePlan Cause → Type 0
IsPlanned settings names_full m x (Ok plan) = ∥ CarriesOut settings names_full m x plan ∥₁
IsPlanned settings names_full m x (Err cause) = step settings names_full (model_of m) x ≡ Refused cause
