-- What the bench's own RUN does.
use Rattle.std.specs.Prelude.{◌≡◌, ℕ, Bool, true}
use Rattle.vsm_model.specs.declared.limits.Settings.{Settings}
use Rattle.vsm_model.specs.declared.replies.Reply.{Reply}
use Rattle.vsm_model.specs.declared.replies.Reply.TheVariants.{Turn}
use Rattle.vsm_model.specs.State.{State, is_task}
use Rattle.vsm_model.specs.Services.{run}
use Rattle.vsm_model.specs.Standing.{Accepted}
use Rattle.vsm_model.specs.Step.{step}

-- From s to t, it is the task's turn, and nothing else changes.
pub record HasItsTurn (s t : State) (task : ℕ) : Type 0 where
  pub was_task : is_task s task ≡ true
  pub current_alone : t ≡ record s { current = task }

-- An accepted RUN changes only the current task.
abbrev pub RunTurnsToTheTask : Type 0
RunTurnsToTheTask =
    (settings : Settings) (names_full : Bool) (s t : State) (task : ℕ) (reply : Reply) →
    step settings names_full s (run task) ≡ Accepted t reply → HasItsTurn s t task × (reply ≡ Turn task)
