-- What holds of each state that is reached still holds after an accepted service on storage.
use Rattle.std.specs.Prelude.{◌≡◌, ℕ, ◌<◌, Bool, true, Option, Some, List, All}
use Rattle.vsm_model.specs.declared.limits.Settings.{Settings}
use Rattle.vsm_model.specs.declared.replies.Reply.{Reply}
use Rattle.vsm_model.specs.declared.services.Obtain.{Obtain}
use Rattle.vsm_model.specs.declared.services.Release.{Release}
use Rattle.vsm_model.specs.Names.{GivesAddress}
use Rattle.vsm_model.specs.Regions.{settings_valid}
use Rattle.vsm_model.specs.Services.{obtain, release, whole, store}
use Rattle.vsm_model.specs.Standing.{Accepted}
use Rattle.vsm_model.specs.State.{State}
use Rattle.vsm_model.specs.Step.{step}
use Rattle.vsm_model.specs.WellFormed.{IsWellFormed}

-- the register that is named, if one is, is one of the sixteen
abbrev pub IsRegister : Option ℕ → Type 0
IsRegister named = (register : ℕ) → named ≡ Some register → register < 16

abbrev pub ObtainLeavesWellFormed : Type 0
ObtainLeavesWellFormed =
    (settings : Settings) (names_full : Bool) (s t : State) (o : Obtain) (reply : Reply) →
    settings_valid settings ≡ true → IsRegister o.register → IsWellFormed settings s →
    step settings names_full s (obtain o) ≡ Accepted t reply → IsWellFormed settings t

abbrev pub ReleaseLeavesWellFormed : Type 0
ReleaseLeavesWellFormed =
    (settings : Settings) (names_full : Bool) (s t : State) (r : Release) (reply : Reply) →
    IsWellFormed settings s → step settings names_full s (release r) ≡ Accepted t reply → IsWellFormed settings t

abbrev pub WholeReleaseLeavesWellFormed : Type 0
WholeReleaseLeavesWellFormed =
    (settings : Settings) (names_full : Bool) (s t : State) (number : ℕ) (reply : Reply) →
    IsWellFormed settings s → step settings names_full s (whole number) ≡ Accepted t reply → IsWellFormed settings t

-- What is stored are bytes.
abbrev pub StoreLeavesWellFormed : Type 0
StoreLeavesWellFormed =
    (settings : Settings) (names_full : Bool) (s t : State) (address : ℕ) (bytes : List ℕ) (reply : Reply) →
    All (λ byte. byte < 256) bytes → IsWellFormed settings s →
    step settings names_full s (store address bytes) ≡ Accepted t reply → IsWellFormed settings t

-- If a statement's name would be one too many, none of these services gives it an address.
abbrev pub OneNameTooManyIsGivenNoAddress : Type 0
OneNameTooManyIsGivenNoAddress =
    (settings : Settings) (s t : State) (reply : Reply) (address : ℕ) → GivesAddress reply address →
    ((o : Obtain) → step settings true s (obtain o) ≡ Accepted t reply → ⊥)
    × ((r : Release) → step settings true s (release r) ≡ Accepted t reply → ⊥)
    × ((number : ℕ) → step settings true s (whole number) ≡ Accepted t reply → ⊥)
    × ((at : ℕ) (bytes : List ℕ) → step settings true s (store at bytes) ≡ Accepted t reply → ⊥)
