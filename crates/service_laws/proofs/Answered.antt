-- What an accepted service on cell pools leaves, from its effect.
use Rattle.std.proofs.Common.{◌≡◌, ◌≢◌, ℕ, ◌<◌, ◌^◌, false, ◌==◌, Option, Some, None, List, [], ◌∷◌, refl, sym, subst}
use Rattle.std.specs.Prelude.{All}
use Rattle.std.proofs.lemmas.Bool.{or_parts, eqb-false}
use Rattle.std.proofs.lemmas.List.Elements.{All-cons, All-nil}
use Rattle.vsm_model.specs.declared.limits.Settings.{Settings}
use Rattle.vsm_model.specs.declared.replies.Reply.{Reply}
use Rattle.vsm_model.specs.Search.{is_in}
use Rattle.vsm_model.specs.State.{State}
use Rattle.vsm_model.specs.Services.{Service}
use Rattle.vsm_model.specs.Standing.{Accepted}
use Rattle.vsm_model.specs.Registers.{with_registers, registers_set, named_register}
use Rattle.vsm_model.specs.Step.{replied}
use Rattle.vsm_model.specs.WellFormed.{IsWellFormed}
use Rattle.vsm_model.proofs.Chosen.{accepted_state, accepted_reply}
use Rattle.vsm_model.proofs.Registered.{AreWords, registers_leave_well_formed, words_alone}

-- the state and the reply
pub state_is : (x : Service) (after : State × Reply) (t : State) (reply : Reply) → replied x after ≡ Accepted t reply →
    with_registers after.0 (registers_set x after.1) ≡ t
state_is x after t reply e = accepted_state _ t after.1 reply e

pub reply_is : (x : Service) (after : State × Reply) (t : State) (reply : Reply) → replied x after ≡ Accepted t reply → after.1 ≡ reply
reply_is x after t reply e = accepted_reply _ t after.1 reply e

pub left_well_formed : (settings : Settings) (x : Service) (after : State × Reply) (t : State) (reply : Reply) →
    AreWords (registers_set x after.1) → IsWellFormed settings after.0 → replied x after ≡ Accepted t reply →
    IsWellFormed settings t
left_well_formed settings x after t reply words w e =
    subst (IsWellFormed settings) (state_is x after t reply e)
    (registers_leave_well_formed settings (registers_set x after.1) after.0 words w)

none_is_some : (r : ℕ) → ◌≡◌ {A = Option ℕ} None (Some r) → ⊥
none_is_some r e = cc

pub named_words : (register : Option ℕ) (word : ℕ) → ((r : ℕ) → register ≡ Some r → r < 16) → word < 2 ^ 32 → AreWords (named_register register word)
named_words None word low small = tt
named_words (Some r) word low small = (low r refl, small, tt)

-- an address that isn't in a list is none of its addresses
pub none_of : (xs : List ℕ) (c : ℕ) → is_in xs c ≡ false → All (λ d. c ≢ d) xs
none_of [] c e = All-nil (λ d. c ≢ d)
none_of (x ∷ xs) c e =
    let parts = or_parts (x == c) (is_in xs c) e in
    All-cons (λ d. c ≢ d) x xs (λ same. eqb-false x c parts.0 (sym same)) (none_of xs c parts.1)
