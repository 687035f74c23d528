-- The word of a name after a script.
use Rattle.std.specs.Prelude.{◌≡◌, ℕ, List, Option, Result, Ok, Err}
use Rattle.arrayvec.specs.ArrayString.{ArrayString}
use Rattle.script_steps.specs.Output.{Marked}
use Rattle.script_steps.specs.Taken.{Ended}
use Rattle.vsm_model.specs.declared.limits.Settings.{Settings}
use Rattle.vsm_model.specs.Names.{word_of}
use Rattle.explain_standing.specs.Faults.{FollowsNot}
use Rattle.explain_standing.specs.Lined.{standing}
use Rattle.explain_standing.specs.Since.{machine_after}
use Rattle.explain_standing.specs.declared.faults.FollowFault.{FollowFault}

-- It is the one after the statements in effect; or the script can't be followed to its end.
abbrev pub TellsWord : Settings → List ℕ → ArrayString → Result (Option ℕ) FollowFault → Type 0
TellsWord settings script name (Ok word) =
    (answers : List Marked) × Ended settings script answers
    × (word ≡ word_of (machine_after settings (standing settings answers)).names name.bytes)
TellsWord settings script name (Err fault) = FollowsNot settings script fault
