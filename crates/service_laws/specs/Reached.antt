-- What holds of each state that is reached.
use Rattle.std.specs.Prelude.{◌≡◌, ℕ, ◌<◌, Bool, true, Option, Some, None, List, All, ⊤}
use Rattle.vsm_model.specs.declared.limits.Settings.{Settings}
use Rattle.vsm_model.specs.declared.replies.Reply.{Reply}
use Rattle.vsm_model.specs.Regions.{settings_valid}
use Rattle.vsm_model.specs.State.{State}
use Rattle.vsm_model.specs.Services.{Service, obtain, store, build, get}
use Rattle.vsm_model.specs.Standing.{Accepted, alone}
use Rattle.vsm_model.specs.Names.{NamedState, first_named_state, NamedService, named_step}
use Rattle.vsm_model.specs.Step.{step}
use Rattle.vsm_model.specs.WellFormed.{IsWellFormed, IsWellFormedNamed}

-- the register that is named, if one is, is one of the sixteen
abbrev pub IsRegister : Option ℕ → Type 0
IsRegister named = (register : ℕ) → named ≡ Some register → register < 16

-- The values of a service are registers and bytes, as are those of each statement that can be written.
abbrev pub HasItsValues : Service → Type 0
HasItsValues (obtain o) = IsRegister o.register
HasItsValues (get name g) = IsRegister g.register
HasItsValues (store address bytes) = All (λ byte. byte < 256) bytes
HasItsValues _ = ⊤

-- Making a cell pool gives its address to no name: the statement has no operand for one.
abbrev pub NamesNothing : Service → Option (List ℕ) → Type 0
NamesNothing (build name header b) named = named ≡ None
NamesNothing _ named = ⊤

pub record IsStatement (x : NamedService) : Type 0 where
  pub values : HasItsValues x.service
  pub unnamed : NamesNothing x.service x.name

-- An accepted service leaves a well-formed state well-formed,
abbrev pub ServiceLeavesWellFormed : Type 0
ServiceLeavesWellFormed =
    (settings : Settings) (names_full : Bool) (s t : State) (x : Service) (reply : Reply) →
    settings_valid settings ≡ true → HasItsValues x → IsWellFormed settings s →
    step settings names_full s x ≡ Accepted t reply → IsWellFormed settings t

-- and so does a statement with its name.
abbrev pub StatementLeavesWellFormed : Type 0
StatementLeavesWellFormed =
    (settings : Settings) (m n : NamedState) (x : NamedService) (reply : Reply) →
    settings_valid settings ≡ true → IsStatement x → IsWellFormedNamed settings m →
    named_step settings m x ≡ Accepted n reply → IsWellFormedNamed settings n

-- So the state after any list of statements run alone is well-formed.
abbrev pub ReachedIsWellFormed : Type 0
ReachedIsWellFormed =
    (settings : Settings) (xs : List NamedService) → settings_valid settings ≡ true → All IsStatement xs →
    IsWellFormedNamed settings (alone first_named_state (named_step settings) xs)
