-- An accepted service on tasks leaves a well-formed state well-formed.
use Rattle.std.specs.Prelude.{◌≡◌, ℕ, Bool}
use Rattle.vsm_model.specs.declared.limits.Settings.{Settings}
use Rattle.vsm_model.specs.declared.replies.Reply.{Reply}
use Rattle.vsm_model.specs.declared.services.Attach.{Attach}
use Rattle.vsm_model.specs.State.{State}
use Rattle.vsm_model.specs.Services.{attach, detach, end_task, run}
use Rattle.vsm_model.specs.Standing.{Accepted}
use Rattle.vsm_model.specs.Step.{step}
use Rattle.vsm_model.specs.WellFormed.{IsWellFormed}

-- ATTACH,
abbrev pub AttachLeavesWellFormed : Type 0
AttachLeavesWellFormed =
    (settings : Settings) (names_full : Bool) (s t : State) (a : Attach) (reply : Reply) → IsWellFormed settings s →
    step settings names_full s (attach a) ≡ Accepted t reply → IsWellFormed settings t

-- DETACH,
abbrev pub DetachLeavesWellFormed : Type 0
DetachLeavesWellFormed =
    (settings : Settings) (names_full : Bool) (s t : State) (task : ℕ) (reply : Reply) → IsWellFormed settings s →
    step settings names_full s (detach task) ≡ Accepted t reply → IsWellFormed settings t

-- ENDTASK,
abbrev pub EndTaskLeavesWellFormed : Type 0
EndTaskLeavesWellFormed =
    (settings : Settings) (names_full : Bool) (s t : State) (reply : Reply) → IsWellFormed settings s →
    step settings names_full s end_task ≡ Accepted t reply → IsWellFormed settings t

-- and RUN.
abbrev pub RunLeavesWellFormed : Type 0
RunLeavesWellFormed =
    (settings : Settings) (names_full : Bool) (s t : State) (task : ℕ) (reply : Reply) → IsWellFormed settings s →
    step settings names_full s (run task) ≡ Accepted t reply → IsWellFormed settings t
