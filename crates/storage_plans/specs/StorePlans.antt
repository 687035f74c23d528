-- What the plan of a store leads to on the plain machine.
use Rattle.std.specs.Prelude.{◌≡◌, ◌≤◌, Bool, true, length, Result, Ok, Err}
use Rattle.vsm_model.specs.declared.causes.Cause.{Cause}
use Rattle.vsm_model.specs.declared.limits.Settings.{Settings}
use Rattle.vsm_model.specs.declared.replies.Reply.TheVariants.{Stored}
use Rattle.vsm_model.specs.Bytes.{are_there}
use Rattle.vsm_model.specs.Services.{Service}
use Rattle.vsm_model.specs.Standing.{Refused}
use Rattle.vsm_model.specs.Step.{step}
use Rattle.storage_changes.specs.State.{StorageState}
use Rattle.storage_changes.specs.Changes.{Change, change_of, no_pages}
use Rattle.storage_changes.specs.Meaning.{model_of}
use Rattle.storage_changes.specs.StorageActions.{write_records}
use Rattle.storage_plans.specs.declared.store.StorePlan.{StorePlan}
use Rattle.storage_plans.specs.Plans.{IsAccepted}

-- its change: a record for each block that its bytes touch
abbrev pub store_change : StorageState → StorePlan → Change
store_change m plan = change_of (write_records m plan.address plan.bytes.now) 0 no_pages

-- it has at most 256 bytes, and each of them lies in an assigned page
pub record CanBeStored (m : StorageState) (plan : StorePlan) : Type 0 where
  pub few : length plan.bytes.now ≤ 256
  pub there : are_there (model_of m) plan.address (length plan.bytes.now) ≡ true

-- A store was planned; or it's refused for this cause.
abbrev pub IsStorePlanned : Settings → Bool → StorageState → Service → Result StorePlan Cause → Type 0
IsStorePlanned settings names_full m x (Ok plan) =
    (∥ IsAccepted settings names_full m x (store_change m plan) Stored ∥₁) × CanBeStored m plan
IsStorePlanned settings names_full m x (Err cause) = step settings names_full (model_of m) x ≡ Refused cause
