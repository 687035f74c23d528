-- What holds after any list of statements and steps.
use Rattle.std.specs.Prelude.{◌≡◌, true}
use Rattle.vsm_model.specs.declared.limits.Settings.{Settings}
use Rattle.vsm_model.specs.Regions.{settings_valid}
use Rattle.vsm_model.specs.Names.{first_named_state}
use Rattle.vsm_model.specs.Standing.{StandsAlone, StaysWithin, GoesForwardAgain, PlainKeeps, KeepsPlain}
use Rattle.bench_core.specs.Machine.{statement_step}

-- The present state and the replies in effect are those of only the statements in effect, run on the plain machine, and
-- there are as many kept and undone states as statements.
abbrev pub RunsAlone : Type 0
RunsAlone = (settings : Settings) → settings_valid settings ≡ true
    → StandsAlone first_named_state (statement_step settings) settings.history

-- What is kept and what is undone are together at most the limit of the history.
abbrev pub StaysWithinLimit : Type 0
StaysWithinLimit = (settings : Settings) → settings_valid settings ≡ true
    → StaysWithin first_named_state (statement_step settings) settings.history

-- Steps forward after the same number of steps back give what was there before.
abbrev pub ForwardGivesBack : Type 0
ForwardGivesBack = (settings : Settings) → settings_valid settings ≡ true
    → GoesForwardAgain (statement_step settings) settings.history

-- With ample memory each call has an answer, and leaves a bench, that the relation of one call allows,
abbrev pub AnswersAreAllowed : Type 0
AnswersAreAllowed = (settings : Settings) → PlainKeeps (statement_step settings) settings.history

-- and it allows no others, except a refusal because memory runs out.
abbrev pub NoOthersAreAllowed : Type 0
NoOthersAreAllowed = (settings : Settings) → KeepsPlain (statement_step settings) settings.history
