-- What a plan of a statement says, and the change that is made of it.
use Rattle.std.specs.Prelude.{◌≡◌, ℕ, ◌+◌, ◌*◌, ◌≤◌, true, Option, Some, None, List, Result, Ok, Err}
use Rattle.std.specs.Option.{option_map}
use Rattle.vsm_model.specs.declared.replies.Reply.{Reply}
use Rattle.vsm_model.specs.declared.replies.Reply.TheVariants.{Obtained, Cell}
use Rattle.vsm_model.specs.Services.{Service}
use Rattle.vsm_model.specs.Standing as outcome
use Rattle.vsm_model.specs.Standing.{Accepted, Refused}
use Rattle.macro_statements.specs.Requests.{Act}
use Rattle.storage_core.specs.Meaning.{state_in_place}
pub use Rattle.storage_core.specs.Planned.{Assigns, AssignsOnly, CanBeReserved, IsIdFor, change_for}
pub use Rattle.storage_core.specs.Planned.{elements_needed, fresh_pages, reply_of}
use Rattle.storage_core.specs.Weight.{weight}
use Rattle.storage_changes.specs.State.{StorageState}
use Rattle.storage_swap.specs.Reserve.{Reserves}
use Rattle.vsm_machine.specs.NameChanges.{NameStep, define, step_by, step_to}
use Rattle.vsm_machine.specs.declared.machine.Machine.{Machine}
use Rattle.vsm_machine.specs.declared.machine.MachineChange.{MachineChange}
use Rattle.vsm_machine.specs.declared.plans.NamePlan.{NamePlan}
use Rattle.vsm_machine.specs.declared.plans.Planned.{Planned}
use Rattle.vsm_machine.specs.declared.refusals.Refusal.{Refusal}
use Rattle.vsm_machine.specs.NameSteps.{GivesBy}
use Rattle.vsm_machine.specs.Changes.{MachineState, Difference, named_of, step_of, overlay, StorageFits}
use Rattle.vsm_machine.specs.Machine.{Why, service_asked, statement_step}
use Rattle.vsm_machine.specs.Refusals.{refusal_for}

-- The name that a statement names is given the address of the area that it obtains, or of the cell.
abbrev pub step_for : List (List ℕ × ℕ) → Option (List ℕ) → Reply → Option NameStep
step_for names (Some name) (Obtained address length) = Some (step_to names name address)
step_for names (Some name) (Cell address) = Some (step_to names name address)
step_for names _ _ = None

-- the name that a step defines, if it defines one
abbrev pub defined_by : Option NameStep → Option (List ℕ)
defined_by (Some (define place name word)) = Some name
defined_by _ = None

-- what the change of a planned name says, if one is planned
abbrev pub plan_step : Option NamePlan → Option NameStep
plan_step p = option_map (λ n. step_by (λ place. n.name.now.bytes) n.change) p

-- the step of the name that is planned, if one is
abbrev pub step_planned : Planned → Option NameStep
step_planned p = plan_step p.name

-- what the change of the plan will mean, if a new cell pool has this id
abbrev pub difference_in : MachineState → ℕ → Planned → Difference
difference_in m id p = record { storage = change_for m.storage id p.plan; step = step_planned p; known = true }

-- A statement was planned: it is accepted, with this reply, in the state that the plan's change leads to, if a new cell
-- pool has this id; and that change fits.
pub record IsAcceptedBy (m : MachineState) (x : Act) (p : Planned) (id : ℕ) : Type 0 where
  pub accepted :
      statement_step m.settings (named_of m) x
      ≡ Accepted (named_of (overlay m (difference_in m id p))) (reply_of p.plan)
  pub fits : StorageFits m.settings m.storage (change_for m.storage id p.plan)

-- how much a statement weighs, once its values are looked up: the weight of its service
abbrev pub weight_served : StorageState → Option Service → ℕ
weight_served m None = 0
weight_served m (Some service) = weight m service

abbrev pub weight_asked : MachineState → Act → ℕ
weight_asked m x = weight_served m.storage (service_asked (named_of m) x)

-- It's accepted, under any id that a new cell pool can have; the change can be made, gives a name a word or none, takes
-- no more elements than the statement's weight allows, and has frames for exactly the pages that become assigned.
pub record CanCarryOut (m : MachineState) (x : Act) (p : Planned) : Type 0 where
  pub accepts : outcome.IsAccepted (statement_step m.settings (named_of m) x)
  pub accepted : (id : ℕ) → IsIdFor m.storage p.plan id → ∥ IsAcceptedBy m x p id ∥₁
  pub can : CanBeReserved m.storage p.plan
  pub gives : GivesBy m.names (step_planned p)
  pub light : elements_needed m.storage p.plan ≤ 32 + 8 * weight_asked m x
  pub assigned : (id : ℕ) → Assigns m.storage (change_for m.storage id p.plan) (fresh_pages p.plan)
  pub only :
      (id : ℕ) → IsIdFor m.storage p.plan id
      → AssignsOnly m.storage (change_for m.storage id p.plan) (fresh_pages p.plan)

-- A statement was planned, or it is refused for this.
abbrev pub IsPlanned : MachineState → Act → Result Planned Refusal → Type 0
IsPlanned m x (Ok p) = CanCarryOut m x p
IsPlanned m x (Err e) = (why : Why) × (statement_step m.settings (named_of m) x ≡ Refused why) × (e ≡ refusal_for why)

-- The change was made of the plan: the change of its storage, in which a new cell pool has an id that none had, and the
-- step of its name, in the table that has the name now.
pub record IsChangeOf (m : Machine) (p : Planned) (n : Machine) (c : MachineChange) : Type 0 where
  pub id : ℕ
  pub free : IsIdFor (state_in_place m.storage) p.plan id
  pub storage : Reserves m.storage.parts (change_for (state_in_place m.storage) id p.plan) c.storage n.storage.parts
  pub step : step_of n.names c ≡ step_planned p
