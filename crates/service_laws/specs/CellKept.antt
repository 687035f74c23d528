-- The services on cell pools leave a well-formed state well-formed.
use Rattle.std.specs.Prelude.{◌≡◌, ℕ, ◌<◌, Bool, true, Option, Some, List}
use Rattle.vsm_model.specs.declared.limits.Settings.{Settings}
use Rattle.vsm_model.specs.declared.replies.Reply.{Reply}
use Rattle.vsm_model.specs.declared.services.Build.{Build}
use Rattle.vsm_model.specs.declared.services.Get.{Get}
use Rattle.vsm_model.specs.Regions.{settings_valid}
use Rattle.vsm_model.specs.State.{State}
use Rattle.vsm_model.specs.Services.{build, get, free, delete}
use Rattle.vsm_model.specs.Standing.{Accepted}
use Rattle.vsm_model.specs.Step.{step}
use Rattle.vsm_model.specs.WellFormed.{IsWellFormed}

-- the register that a GET names, if it names one, is one of the sixteen
abbrev pub NamesARegister : Get → Type 0
NamesARegister g = (r : ℕ) → g.register ≡ Some r → r < 16

abbrev pub BuildLeavesWellFormed : Type 0
BuildLeavesWellFormed =
    (settings : Settings) (names_full : Bool) (s t : State) (name : List ℕ) (header : Option (List ℕ)) (b : Build)
    (reply : Reply) →
    IsWellFormed settings s →
    step settings names_full s (build name header b) ≡ Accepted t reply → IsWellFormed settings t

-- With valid settings addresses are words.
abbrev pub GetLeavesWellFormed : Type 0
GetLeavesWellFormed =
    (settings : Settings) (names_full : Bool) (s t : State) (name : List ℕ) (g : Get) (reply : Reply) →
    settings_valid settings ≡ true → NamesARegister g → IsWellFormed settings s →
    step settings names_full s (get name g) ≡ Accepted t reply → IsWellFormed settings t

abbrev pub FreeLeavesWellFormed : Type 0
FreeLeavesWellFormed =
    (settings : Settings) (names_full : Bool) (s t : State) (name : List ℕ) (cell : ℕ) (reply : Reply) →
    IsWellFormed settings s →
    step settings names_full s (free name cell) ≡ Accepted t reply → IsWellFormed settings t

abbrev pub DeleteLeavesWellFormed : Type 0
DeleteLeavesWellFormed =
    (settings : Settings) (names_full : Bool) (s t : State) (name : List ℕ) (reply : Reply) →
    IsWellFormed settings s →
    step settings names_full s (delete name) ≡ Accepted t reply → IsWellFormed settings t
