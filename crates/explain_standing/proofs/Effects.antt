-- What holds of a state whatever its registers are holds after a service by its effect.
use Rattle.std.proofs.Common.{◌≡◌, ◌⊎◌, ℕ, Bool, true, Option, Some, List, [], ◌∷◌, refl, sym, ap, ◌∙◌, inl, inr}
use Rattle.vsm_model.specs.declared.causes.Cause.{Cause}
use Rattle.vsm_model.specs.declared.limits.Settings.{Settings}
use Rattle.vsm_model.specs.declared.replies.Reply.{Reply}
use Rattle.vsm_model.specs.declared.replies.Reply.TheVariants.{Returned}
use Rattle.vsm_model.specs.Registers.{with_register, with_registers, registers_set}
use Rattle.vsm_model.specs.Services.{Service}
use Rattle.vsm_model.specs.Standing.{Outcome, Accepted, state_after, reply_in}
use Rattle.vsm_model.specs.State.{State}
use Rattle.vsm_model.specs.Step.{effect, step}
use Rattle.vsm_model.proofs.Chosen.{accepted_has_its_effect}

pub same_reply : (r q : Reply) → ◌≡◌ {A = Option Reply} (Some r) (Some q) → q ≡ r
same_reply r q e = cc

module _ (has : State → Bool) (still : (s : State) (register word : ℕ) → has (with_register s register word) ≡ has s) where
  registers_keep : (rows : List (ℕ × ℕ)) (s : State) → has (with_registers s rows) ≡ has s
  registers_keep [] s = refl
  registers_keep (row ∷ rows) s = registers_keep rows (with_register s row.0 row.1) ∙ still s row.0 row.1

  -- It held after the effect, which the reply answers; or before, and the reply is 4.
  pub held_by_effect : (settings : Settings) (names_full : Bool) (s t : State) (x : Service) (reply : Reply) → step settings names_full s x ≡ Accepted t reply → has t ≡ true →
      ((has (effect settings s x).0 ≡ true) × (reply ≡ (effect settings s x).1)) ⊎ ((has s ≡ true) × (reply ≡ Returned 4))
  held_by_effect settings names_full s t x reply e held = elim (accepted_has_its_effect settings names_full s t x reply e) [
    | inl done ↦
        let after : has t ≡ has (effect settings s x).0 =
        ap (λ (o : Outcome State Reply Cause). has (state_after s o)) (sym done.1) ∙ registers_keep (registers_set x (effect settings s x).1) (effect settings s x).0 in
        inl (sym after ∙ held, same_reply (effect settings s x).1 reply (ap reply_in done.1))
    | inr four ↦ inr (sym (ap has four.2 ∙ still s 15 4) ∙ held, four.1)
  ]
