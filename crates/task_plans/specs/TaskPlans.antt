-- What the plans of tasks lead to on the plain machine. Assembler Services Reference, ATTACH and DETACH; Assembler
-- Services Guide, "Virtual storage management", "Subpool handling".
use Rattle.std.specs.Prelude.{◌≡◌, ℕ, ◌+◌, ◌≤◌, Bool, true, unwrap_or, None, IsSome, List, [], ◌∷◌, ◌++◌, length}
use Rattle.std.specs.Prelude.{Result, Ok, Err}
use Rattle.std.specs.List.{flat_map}
use Rattle.vsm_elements.specs.Store.{live_count}
use Rattle.vsm_model.specs.declared.Subpool.{Subpool}
use Rattle.subpool_storage.specs.Subpools.{Subpools, with_own}
use Rattle.storage_changes.specs.declared.record.Record.{Record}
use Rattle.vsm_model.specs.declared.causes.Cause.{Cause}
use Rattle.vsm_model.specs.declared.limits.Settings.{Settings}
use Rattle.vsm_model.specs.declared.replies.Reply.{Reply}
use Rattle.vsm_model.specs.declared.replies.Reply.TheVariants.{Attached, Returned}
use Rattle.vsm_model.specs.declared.services.Passed.{Passed}
use Rattle.vsm_model.specs.Passing.{numbers_in}
use Rattle.vsm_model.specs.Services.{Service, attach, detach, end_task}
use Rattle.vsm_model.specs.Standing.{Refused}
use Rattle.vsm_model.specs.Step.{step}
use Rattle.storage_changes.specs.State.{StorageState}
use Rattle.storage_changes.specs.Changes.{Change, change_parking}
use Rattle.storage_changes.specs.Meaning.{model_of}
use Rattle.storage_changes.specs.StorageActions.{register_records}
use Rattle.storage_changes.specs.Attaching.{attach_records, attach_blanks, CanAttach}
use Rattle.storage_changes.specs.Ending.{ended_below, owned_by_these, end_records, end_blanks, with_turn, CanEnd}
use Rattle.storage_changes.specs.Ending.{ended_records, removed_records, unshared_records, weight_ended}
pub use Rattle.storage_plans.specs.Plans.{IsAccepted}
use Rattle.storage_swap.specs.declared.storage.Parts.{Parts}
use Rattle.storage_swap.specs.declared.builder.ChangeBuilder.{ChangeBuilder}
use Rattle.storage_swap.specs.Builder.{records_in, parked_in}
use Rattle.storage_swap.specs.Growth.{MakesElements}
use Rattle.task_plans.specs.declared.attach.AttachPlan.{AttachPlan}
use Rattle.task_plans.specs.declared.end.EndPlan.{EndPlan}

-- the numbers that an operand names, if its bytes exist
abbrev pub numbers : StorageState → Passed → List ℕ
numbers m passed = unwrap_or (numbers_in (model_of m) passed) []

-- the change of a task that is attached
abbrev pub attach_change : StorageState → AttachPlan → Change
attach_change m plan =
    change_parking []
    (attach_records m plan.task plan.attach.shares_zero
    (numbers m plan.attach.given) (numbers m plan.attach.shared)
    ++ register_records m ((15, 0) ∷ (1, plan.task) ∷ []))
    (attach_blanks (numbers m plan.attach.given) (numbers m plan.attach.shared))

-- the registers that the end of tasks sets: the return code of DETACH
abbrev pub end_registers : Reply → List (ℕ × ℕ)
end_registers (Returned code) = (15, code) ∷ []
end_registers _ = []

-- the change of a subtree that ends
abbrev pub end_change : StorageState → EndPlan → Change
end_change m plan =
    let ended = ended_below m.tasks.parents plan.top in
    change_parking (owned_by_these m.subpools ended)
    (end_records m ended plan.next ++ register_records (with_turn m plan.next) (end_registers plan.reply))
    (end_blanks m ended)

-- the subpools under whose names the end of a subtree parks empty ones
abbrev pub parks_all : StorageState → ℕ → List Subpool
parks_all m top = owned_by_these m.subpools (ended_below m.tasks.parents top)

-- the records of a subtree's end that follow the turn
abbrev pub rest_records : StorageState → EndPlan → List Record
rest_records m plan =
    let ended = ended_below m.tasks.parents plan.top in
    unshared_records m.subpools ended ++ removed_records m.subpools ended ++ flat_map (ended_records m) ended
    ++ register_records (with_turn m plan.next) (end_registers plan.reply)

-- how many subpools a service on tasks gives and shares, and how many tasks, subpools, extents and rows of sight it
-- removes
abbrev pub tasks_weight : StorageState → Service → ℕ
tasks_weight m (attach a) = length (numbers m a.given) + length (numbers m a.shared)
tasks_weight m (detach task) = weight_ended m.subpools (ended_below m.tasks.parents task)
tasks_weight m end_task = weight_ended m.subpools (ended_below m.tasks.parents m.tasks.current)
tasks_weight m _ = 0

-- empty subpools are parked under these names too
abbrev pub parked_onto : Subpools → List Subpool → Subpools
parked_onto m [] = m
parked_onto m (p ∷ ps) = parked_onto (with_own m p true) ps

-- each can be, one after the other
abbrev pub CanPark : Subpools → List Subpool → Type 0
CanPark m [] = Unit {0}
CanPark m (p ∷ ps) =
    (1 ≤ p.owner) × (p.owner ≤ 64) × (p.number ≤ 127) × (m.sight p.owner p.number ≡ None)
    × CanPark (with_own m p true) ps

-- Empty subpools of these names were parked, each in one element.
pub record ParksAll (s : Parts) (a : ChangeBuilder) (names : List Subpool) (t : Parts) (b : ChangeBuilder)
    : Type 0 where
  pub records : records_in t b ≡ records_in s a
  pub parked : parked_in t b ≡ parked_onto (parked_in s a) names
  pub spare : s.elements.spare ≤ t.elements.spare + length names
  pub live : live_count t.elements ≤ live_count s.elements + length names
  pub made : MakesElements s.elements t.elements (length names)

-- The bytes of both operands exist, and the task can be attached with what they name.
pub record CanBeAttached (m : StorageState) (plan : AttachPlan) : Type 0 where
  pub given : IsSome (numbers_in (model_of m) plan.attach.given)
  pub shared : IsSome (numbers_in (model_of m) plan.attach.shared)
  pub can : CanAttach (model_of m) plan.task (numbers m plan.attach.given) (numbers m plan.attach.shared)

-- The subtree can end, and then it's the turn of a task that stays.
pub record CanBeEnded (m : StorageState) (plan : EndPlan) : Type 0 where
  pub can : CanEnd (model_of m) (ended_below m.tasks.parents plan.top) plan.next

-- The attaching of a task was planned, with no more subpools than the service passes; or it's refused for this cause.
abbrev pub IsAttachPlanned : Settings → Bool → StorageState → Service → Result AttachPlan Cause → Type 0
IsAttachPlanned settings names_full m x (Ok plan) =
    (∥ IsAccepted settings names_full m x (attach_change m plan) (Attached plan.task) ∥₁) × CanBeAttached m plan
    × (length (numbers m plan.attach.given) + length (numbers m plan.attach.shared) ≤ tasks_weight m x)
IsAttachPlanned settings names_full m x (Err cause) = step settings names_full (model_of m) x ≡ Refused cause

-- The end of tasks was planned, which removes no more than the service does; or it's refused for this cause.
abbrev pub IsEndPlanned : Settings → Bool → StorageState → Service → Result EndPlan Cause → Type 0
IsEndPlanned settings names_full m x (Ok plan) =
    (∥ IsAccepted settings names_full m x (end_change m plan) plan.reply ∥₁) × CanBeEnded m plan
    × (weight_ended m.subpools (ended_below m.tasks.parents plan.top) ≤ tasks_weight m x)
IsEndPlanned settings names_full m x (Err cause) = step settings names_full (model_of m) x ≡ Refused cause
