-- Why a script can't be followed to its end.
use Rattle.std.specs.Prelude.{ℕ, List}
use Rattle.script_steps.specs.Output.{Marked}
use Rattle.script_steps.specs.Run.{IsNewFault}
use Rattle.script_steps.specs.Taken.{PassesBound}
use Rattle.vsm_model.specs.declared.limits.Settings.{Settings}
use Rattle.explain_standing.specs.declared.faults.FollowFault.{FollowFault}
use Rattle.explain_standing.specs.declared.faults.FollowFault.TheVariants as fault

-- The bench can't be made, a byte of the script passes a bound, or memory runs out.
abbrev pub FollowsNot : Settings → List ℕ → FollowFault → Type 0
FollowsNot settings script (fault.New f) = IsNewFault settings f
FollowsNot settings script fault.TooLong = (answers : List Marked) × PassesBound settings script answers
FollowsNot settings script fault.Memory = Unit {0}
