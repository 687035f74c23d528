-- A plan of a service is a plan of the statement that asks for it.
use mathlib.Core.Logic.{∥∥₁_map}
use Rattle.std.proofs.Common.{◌≡◌, ℕ, ◌+◌, ◌*◌, ◌≤◌, Option, Some, None, List, refl, sym, ap, ◌∙◌, subst}
use Rattle.vsm_model.specs.declared.causes.Cause.{Cause}
use Rattle.vsm_model.specs.declared.causes.Family.{Family}
use Rattle.vsm_model.specs.declared.replies.Reply.{Reply}
use Rattle.vsm_model.specs.declared.replies.Reply.TheVariants.{Obtained, Returned, Cell, Attached, Turn, Stored}
use Rattle.vsm_model.specs.Codes.{completion_code}
use Rattle.vsm_model.specs.Forms.{with_code}
use Rattle.vsm_model.specs.Names.{named, names_after, is_one_too_many}
use Rattle.vsm_model.specs.Standing as outcome
use Rattle.vsm_model.specs.Standing.{Outcome, Accepted, Refused}
use Rattle.vsm_model.specs.State.{State}
use Rattle.vsm_model.specs.Services.{Service}
use Rattle.vsm_model.specs.Step.{step}
use Rattle.macro_statements.specs.Requests.{Act}
use Rattle.storage_changes.specs.Changes as storage
use Rattle.storage_changes.specs.Meaning.{model_of, IsSound}
use Rattle.storage_core.specs.Planned.{Assigns, IsAccepted, change_for, elements_needed, fresh_pages, reply_of}
use Rattle.storage_core.specs.Planned as planned
use Rattle.storage_core.proofs.FramesBrought.{assigns_frames}
use Rattle.vsm_machine.specs.StepsBack.{step_to_gives, step_to_rows}
use Rattle.vsm_machine.specs.declared.plans.Planned.{Planned}
use Rattle.vsm_machine.specs.declared.refusals.Refusal.{Refusal}
use Rattle.vsm_machine.specs.declared.refusals.Refusal.TheVariants.{Abend}
use Rattle.vsm_machine.specs.NameSteps.{stepped_by, GivesBy}
use Rattle.vsm_machine.specs.Changes.{MachineState, named_of}
use Rattle.vsm_machine.specs.Machine.{Why, abended, or_abend, served, service_asked, name_asked, family_asked, statement_step}
use Rattle.vsm_machine.specs.Planned.{step_for, step_planned, weight_served, IsAcceptedBy, CanCarryOut}
use Rattle.vsm_machine.specs.Refusals.{refusal_for}

-- without a name no step is taken
pub no_step : (names : List (List ℕ × ℕ)) (reply : Reply) → None ≡ step_for names None reply
no_step names (Obtained address length) = refl
no_step names (Cell address) = refl
no_step names (Returned code) = refl
no_step names (Attached task) = refl
no_step names (Turn task) = refl
no_step names Stored = refl

names_stepped : (names : List (List ℕ × ℕ)) (name : Option (List ℕ)) (reply : Reply) → stepped_by names (step_for names name reply) ≡ names_after names name reply
names_stepped names None (Obtained address length) = refl
names_stepped names None (Cell address) = refl
names_stepped names None (Returned code) = refl
names_stepped names None (Attached task) = refl
names_stepped names None (Turn task) = refl
names_stepped names None Stored = refl
names_stepped names (Some name) (Obtained address length) = step_to_rows names name address
names_stepped names (Some name) (Cell address) = step_to_rows names name address
names_stepped names (Some name) (Returned code) = refl
names_stepped names (Some name) (Attached task) = refl
names_stepped names (Some name) (Turn task) = refl
names_stepped names (Some name) Stored = refl

gives : (names : List (List ℕ × ℕ)) (name : Option (List ℕ)) (reply : Reply) → GivesBy names (step_for names name reply)
gives names None (Obtained address length) = tt
gives names None (Cell address) = tt
gives names None (Returned code) = tt
gives names None (Attached task) = tt
gives names None (Turn task) = tt
gives names None Stored = tt
gives names (Some name) (Obtained address length) = step_to_gives names name address
gives names (Some name) (Cell address) = step_to_gives names name address
gives names (Some name) (Returned code) = tt
gives names (Some name) (Attached task) = tt
gives names (Some name) (Turn task) = tt
gives names (Some name) Stored = tt

-- a service that is accepted stays accepted with its name and in its form
formed_accepted : (family : Family) (service : Service) (names : List (List ℕ × ℕ)) (name : Option (List ℕ)) (o : Outcome State Reply Cause) → outcome.IsAccepted o →
    outcome.IsAccepted (or_abend (with_code family service (named names name o)))
formed_accepted family service names name (Accepted s reply) h = tt
formed_accepted family service names name (Refused cause) h = absurd h

module _ (m : MachineState) (x : Act) (service : Service) (is : Some service ≡ service_asked (named_of m) x) where
  accepted_by : (p : Planned) (id : ℕ) → IsAccepted m.settings (is_one_too_many m.names (name_asked x)) m.storage service (change_for m.storage id p.plan) (reply_of p.plan) →
      ∥ IsSound m.settings m.storage ∥₁ → Assigns m.storage (change_for m.storage id p.plan) (fresh_pages p.plan) →
      step_planned p ≡ step_for m.names (name_asked x) (reply_of p.plan) → IsAcceptedBy m x p id
  accepted_by p id carried sound assigns named_by =
      let reply = reply_of p.plan in
      let names : names_after m.names (name_asked x) reply ≡ stepped_by m.names (step_planned p) =
      sym (names_stepped m.names (name_asked x) reply) ∙ ap (stepped_by m.names) (sym named_by) in
      record {
        accepted =
            ap (served m.settings (named_of m) x) (sym is)
            ∙ ap (λ o. or_abend (with_code (family_asked x) service (named m.names (name_asked x) o))) carried.accepted
            ∙ (λ i. Accepted (record { storage = model_of (storage.overlay m.storage (change_for m.storage id p.plan)); names = names i }) reply);
        fits = record { fits = carried.fits; before = sound; after = ∣ carried.sound ∣₁; frames = assigns_frames m.storage id p.plan assigns };
      }

  pub carried_by : (p : Planned) → planned.CanCarryOut m.settings (is_one_too_many m.names (name_asked x)) m.storage service p.plan →
      ∥ IsSound m.settings m.storage ∥₁ → step_planned p ≡ step_for m.names (name_asked x) (reply_of p.plan) → CanCarryOut m x p
  carried_by p carried sound named_by = record {
    accepts =
        subst (λ o. outcome.IsAccepted (served m.settings (named_of m) x o)) is
        (formed_accepted (family_asked x) service m.names (name_asked x) (step m.settings (is_one_too_many m.names (name_asked x)) (model_of m.storage) service) carried.accepts);
    accepted = λ id free. ∥∥₁_map (carried.accepted id free) (λ a. accepted_by p id a sound (carried.assigned id) named_by);
    can = carried.can;
    gives = subst (GivesBy m.names) (sym named_by) (gives m.names (name_asked x) (reply_of p.plan));
    light = subst (λ o. elements_needed m.storage p.plan ≤ 32 + 8 * weight_served m.storage o) is carried.light;
    assigned = carried.assigned;
    only = carried.only;
  }

  pub refused_by : (cause : Cause) (e : Refusal) →
      step m.settings (is_one_too_many m.names (name_asked x)) (model_of m.storage) service ≡ Refused cause →
      e ≡ Abend (completion_code (family_asked x) service cause) →
      (why : Why) × (statement_step m.settings (named_of m) x ≡ Refused why) × (e ≡ refusal_for why)
  refused_by cause e refused told = (
    abended (completion_code (family_asked x) service cause),
    ap (served m.settings (named_of m) x) (sym is)
        ∙ ap (λ o. or_abend (with_code (family_asked x) service (named m.names (name_asked x) o))) refused,
    told,
  )
