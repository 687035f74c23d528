-- A plan that was made into a change, and the change once it was exchanged: it can be exchanged, and leads to a sound
-- storage.
use Rattle.std.proofs.Common.{◌≡◌, ℕ, Bool, sym, ap, ◌∙◌, subst}
use mathlib.Core.Logic.{∥∥₁_elim, ∥∥₁_map}
use Rattle.vsm_model.specs.declared.limits.Settings.{Settings}
use Rattle.vsm_model.specs.Services.{Service}
use Rattle.storage_changes.specs.State.{StorageState}
use Rattle.storage_changes.specs.Changes.{Change as Meaning, Fit, overlay}
use Rattle.storage_changes.specs.Meaning.{IsSound}
use Rattle.storage_changes.specs.Props.{Fit-prop}
use Rattle.storage_swap.specs.declared.storage.Parts.{Parts}
use Rattle.storage_swap.specs.Storage.{state_of}
use Rattle.storage_core.specs.declared.plans.Plan.{Plan}
use Rattle.storage_core.specs.Planned.{CanCarryOut, IsAccepted, IsIdFor, change_for, reply_of}
use Rattle.storage_swap.specs.declared.change.Change.{Change}
use Rattle.storage_swap.specs.Reserve.{Reserves}
use Rattle.storage_swap.specs.Swap.{means, Swaps}
use Rattle.storage_swap.proofs.BackLemmas.{swaps-lead-back}
use Rattle.storage_swap.specs.Apart.{CanSwap}
use Rattle.storage_swap.specs.ReservedFit.{reserved-changes-fit}
use Rattle.storage_swap.specs.Steps.{storage_inverts}

-- the change leads to a sound storage
abbrev pub LeadsSound : Settings → StorageState → Meaning → Type 0
LeadsSound settings m d = ∥ IsSound settings (overlay m d) ∥₁

module _ (settings : Settings) (names_full : Bool) (m : StorageState) (x : Service) (id : ℕ) (plan : Plan)
    (planned : ∥ IsAccepted settings names_full m x (change_for m id plan) (reply_of plan) ∥₁)
  where
    plan_fits : Fit m (change_for m id plan)
    plan_fits = ∥∥₁_elim planned (Fit-prop m (change_for m id plan)) (λ k. k.fits)

    plan_is_sound : LeadsSound settings m (change_for m id plan)
    plan_is_sound = ∥∥₁_map planned (λ k. k.sound)

module _ (settings : Settings) (names_full : Bool) (p t : Parts) (x : Service) (plan : Plan)
    (planned : CanCarryOut settings names_full (state_of p) x plan)
    (c : Change)
    (made : (id : ℕ) × IsIdFor (state_of p) plan id × Reserves p (change_for (state_of p) id plan) c t)
  where
    accepted : ∥ IsAccepted settings names_full (state_of p) x (change_for (state_of p) made.0 plan) (reply_of plan) ∥₁
    accepted = planned.accepted made.0 made.1

    pub reserved_can : CanSwap t c
    reserved_can = record {
      ready = made.2.ready;
      fits = (reserved-changes-fit p t (change_for (state_of p) made.0 plan) c made.2 (plan_fits settings names_full (state_of p) x made.0 plan accepted)).0;
    }

    pub reserved_sound : LeadsSound settings (state_of t) (means t.elements c)
    reserved_sound =
        let P : StorageState → Type 0 = λ m. LeadsSound settings m (means t.elements c) in
        let Q : Meaning → Type 0 = λ d. LeadsSound settings (state_of p) d in
        subst P (sym made.2.shows)
        (subst Q (sym made.2.meaning) (plan_is_sound settings names_full (state_of p) x made.0 plan accepted))

module _ (settings : Settings) (p t : Parts) (c d : Change) (swapped : Swaps p c t d) (can : CanSwap p c) where
  pub swapped_can : CanSwap t d
  swapped_can = record {
    ready = swapped.after;
    fits = (swaps-lead-back p c t d can.fits swapped).0;
  }

  back : overlay (state_of t) (means t.elements d) ≡ state_of p
  back =
      ap (λ (m : StorageState). overlay m (means t.elements d)) swapped.shows
      ∙ ap (overlay (overlay (state_of p) (means p.elements c))) swapped.turned
      ∙ storage_inverts.leads_back (state_of p) (means p.elements c) can.fits

  pub swapped_sound : ∥ IsSound settings (state_of p) ∥₁ → LeadsSound settings (state_of t) (means t.elements d)
  swapped_sound sound =
      let P : StorageState → Type 0 = λ m. ∥ IsSound settings m ∥₁ in
      subst P (sym back) sound
