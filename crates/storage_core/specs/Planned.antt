-- Which services can be planned, what their plans lead to, and which plans can be made into changes.
use Rattle.std.specs.Prelude.{◌≡◌, ℕ, ◌+◌, ◌*◌, ◌^◌, ◌<◌, ◌≤◌, Bool, IfSome, length, Option, Some, None, ⊤}
use Rattle.std.specs.Prelude.{Result, Ok, Err}
use Rattle.raw_region.specs.Pages.{HaveTables}
use Rattle.run_set.specs.Runs.{Run}
use Rattle.vsm_model.specs.declared.causes.Cause.{Cause}
use Rattle.vsm_model.specs.declared.limits.Settings.{Settings}
use Rattle.vsm_model.specs.declared.replies.Reply.{Reply}
use Rattle.vsm_model.specs.declared.replies.Reply.TheVariants.{Attached, Returned, Stored}
use Rattle.vsm_model.specs.Services.{Service, obtain, release, whole, attach, detach, end_task, run, store, build, get}
use Rattle.vsm_model.specs.Services.{free, delete}
use Rattle.vsm_model.specs.Standing as outcome
use Rattle.vsm_model.specs.Standing.{Refused}
use Rattle.vsm_model.specs.Step.{step}
use Rattle.vsm_model.specs.declared.Subpool.{Subpool}
use Rattle.subpool_storage.specs.Extents.{extents}
use Rattle.subpool_storage.specs.Subpools.{Subpools}
use Rattle.storage_changes.specs.State.{StorageState}
use Rattle.storage_swap.specs.declared.storage.Parts.{Parts}
use Rattle.storage_changes.specs.Changes.{Change, no_pages}
use Rattle.storage_changes.specs.Meaning.{model_of}
use Rattle.storage_plans.specs.declared.plan.StoragePlan.{StoragePlan}
use Rattle.storage_plans.specs.Plans.{change_in}
use Rattle.storage_plans.specs.StorePlans.{store_change, CanBeStored}
pub use Rattle.storage_plans.specs.Plans.{Assigns, AssignsOnly}
use Rattle.storage_changes.specs.Ending.{ended_below, weight_ended}
use Rattle.task_plans.specs.TaskPlans.{numbers, attach_change, end_change}
use Rattle.task_plans.specs.TaskPlans.{CanBeAttached, CanBeEnded}
pub use Rattle.task_plans.specs.TaskPlans.{IsAccepted}
use Rattle.cell_plans.specs.CellPlans.{build_change, delete_change, extents_of_pool, CanBeBuilt, CanBeDeleted}
pub use Rattle.cell_plans.specs.CellPlans.{HasRecords}
use Rattle.storage_core.specs.Weight.{weight}
use Rattle.storage_core.specs.declared.plans.Plan.{Plan}
use Rattle.storage_core.specs.declared.plans.Plan.TheVariants.{Storage, Store, Attach, End, Build, Delete}

-- An obtain, with a register of the sixteen if one is named; a release of an area or of a whole subpool; a store of at
-- most 256 bytes; a service on tasks; or one on a cell pool, whose name has at most 63 bytes and whose header at most
-- 24.
abbrev pub CanBePlanned : Service → Type 0
CanBePlanned (obtain o) = IfSome o.register (λ r. r < 16)
CanBePlanned (release r) = ⊤
CanBePlanned (whole number) = ⊤
CanBePlanned (store address bytes) = length bytes ≤ 256
CanBePlanned (attach a) = ⊤
CanBePlanned (detach task) = ⊤
CanBePlanned end_task = ⊤
CanBePlanned (run task) = ⊤
CanBePlanned (build name header b) = (length name ≤ 63) × IfSome header (λ text. length text ≤ 24)
CanBePlanned (get name g) = (length name ≤ 63) × IfSome g.register (λ r. r < 16)
CanBePlanned (free name cell) = length name ≤ 63
CanBePlanned (delete name) = length name ≤ 63

-- how many extents leave with a subpool that is emptied, if one is
abbrev pub extents_leaving : Subpools → Option Subpool → ℕ
extents_leaving m None = 0
extents_leaving m (Some p) = length (extents m p)

-- whether a change can be made of the plan
abbrev pub CanBeReserved : StorageState → Plan → Type 0
CanBeReserved m (Storage plan) = HasRecords m plan
CanBeReserved m (Store plan) = CanBeStored m plan
CanBeReserved m (Attach plan) = CanBeAttached m plan
CanBeReserved m (End plan) = CanBeEnded m plan
CanBeReserved m (Build plan) = CanBeBuilt m plan
CanBeReserved m (Delete plan) = CanBeDeleted m plan

-- the reply of what was planned
abbrev pub reply_of : Plan → Reply
reply_of (Storage plan) = plan.reply
reply_of (Store plan) = Stored
reply_of (Attach plan) = Attached plan.task
reply_of (End plan) = plan.reply
reply_of (Build plan) = plan.reply
reply_of (Delete plan) = Returned 0

-- a new cell pool can have this id: none has it
abbrev pub IsIdFor : StorageState → Plan → ℕ → Type 0
IsIdFor m (Storage plan) id = ⊤
IsIdFor m (Store plan) id = ⊤
IsIdFor m (Attach plan) id = ⊤
IsIdFor m (End plan) id = ⊤
IsIdFor m (Build plan) id = (id < 2 ^ 32) × (m.subpools.cells id ≡ None)
IsIdFor m (Delete plan) id = ⊤

-- the change that carries it out, if a new cell pool has this id
abbrev pub change_for : StorageState → ℕ → Plan → Change
change_for m id (Storage plan) = change_in m plan
change_for m id (Store plan) = store_change m plan
change_for m id (Attach plan) = attach_change m plan
change_for m id (End plan) = end_change m plan
change_for m id (Build plan) = build_change plan id
change_for m id (Delete plan) = delete_change m plan

-- the pages that become assigned
abbrev pub fresh_pages : Plan → Run
fresh_pages (Storage plan) = plan.fresh
fresh_pages (Store plan) = no_pages
fresh_pages (Attach plan) = no_pages
fresh_pages (End plan) = no_pages
fresh_pages (Build plan) = plan.fresh
fresh_pages (Delete plan) = no_pages

-- how many they are
abbrev pub pages_assigned : Plan → ℕ
pages_assigned plan = (fresh_pages plan).len

-- The change of a request for storage, or for a cell, has fewer records and blank elements than this: 25, its blank
-- elements, and 8 for each extent that leaves with a whole subpool.
abbrev pub storage_elements : StorageState → StoragePlan → ℕ
storage_elements m plan = 25 + plan.blanks + 8 * extents_leaving m.subpools plan.emptied

-- The most elements that the change of a plan takes, with those that it has parked: for a store 17, one for each block
-- that it touches; for a new task 32, and 4 for each number that is given or shared; for tasks that end 32, and 8 for
-- each task, subpool, extent and row of sight that leaves; for a new cell pool 31, and those of its cells; and for a
-- deleted one 32, and 8 for it and for each of its extents.
abbrev pub elements_needed : StorageState → Plan → ℕ
elements_needed m (Storage plan) = storage_elements m plan
elements_needed m (Store plan) = 17
elements_needed m (Attach plan) =
    32 + 4 * (length (numbers m plan.attach.given) + length (numbers m plan.attach.shared))
elements_needed m (End plan) = 32 + 8 * weight_ended m.subpools (ended_below m.tasks.parents plan.top)
elements_needed m (Build plan) = 31 + plan.settings.primary
elements_needed m (Delete plan) = 32 + 8 * (1 + extents_of_pool (m.subpools.cells plan.pool))

-- At least this many elements are spare, and a frame for each of these pages; and the pages have tables.
pub record IsSpareFor (p : Parts) (most : ℕ) (fresh : Run) : Type 0 where
  pub elements : most ≤ p.elements.spare
  pub frames : fresh.len ≤ p.region.spare
  pub tables : HaveTables p.region fresh.start fresh.len

-- Nothing has to grow for the plan's change.
abbrev pub IsSpare : Parts → StorageState → Plan → Type 0
IsSpare p m plan = IsSpareFor p (elements_needed m plan) (fresh_pages plan)

-- The service is accepted, with the plan's reply, in the state that its change leads to, whatever id a new cell pool
-- has; the change can be made, takes no more elements than the service's weight allows, and has frames for exactly the
-- pages that become assigned.
pub record CanCarryOut (settings : Settings) (names_full : Bool) (m : StorageState) (x : Service) (plan : Plan)
    : Type 0 where
  pub accepts : outcome.IsAccepted (step settings names_full (model_of m) x)
  pub accepted :
      (id : ℕ) → IsIdFor m plan id
      → ∥ IsAccepted settings names_full m x (change_for m id plan) (reply_of plan) ∥₁
  pub can : CanBeReserved m plan
  pub light : elements_needed m plan ≤ 32 + 8 * weight m x
  pub assigned : (id : ℕ) → Assigns m (change_for m id plan) (fresh_pages plan)
  pub only : (id : ℕ) → IsIdFor m plan id → AssignsOnly m (change_for m id plan) (fresh_pages plan)

-- a service was planned, or it's refused for this cause
abbrev pub IsPlanned : Settings → Bool → StorageState → Service → Result Plan Cause → Type 0
IsPlanned settings names_full m x (Ok plan) = CanCarryOut settings names_full m x plan
IsPlanned settings names_full m x (Err cause) = step settings names_full (model_of m) x ≡ Refused cause
