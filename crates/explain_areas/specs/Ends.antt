-- The end of a script, as far as it's asked about.
use Rattle.std.specs.Prelude.{◌≡◌, ◌⊎◌, ℕ, List, length, Option, Some, None, Result, Ok, Err}
use Rattle.script_steps.specs.Output.{Marked}
use Rattle.script_steps.specs.Run.{IsNewFault}
use Rattle.script_steps.specs.Taken.{Ended}
use Rattle.vsm_model.specs.declared.limits.Settings.{Settings}
use Rattle.explain_report.specs.Reports.{EndsStatement, HasLine, IsAnsweredEnd, IsSilent, LacksLine, Passes}
use Rattle.explain_report.specs.declared.faults.ReportFault.{ReportFault}
use Rattle.explain_report.specs.declared.faults.ReportFault.TheVariants as fault

-- The statement of line n ends at a place: after the first line from n on after which no statement is open, and that
-- line is answered; or at the script's end, which has the line and brings its answer.
abbrev pub IsEndAt : Settings → List ℕ → ℕ → ℕ → Type 0
IsEndAt settings script n at =
    ((answers : List Marked) × EndsStatement settings script n at answers)
    ⊎ ((at ≡ length script) × HasLine settings script (Some n) × (answers : List Marked)
    × Ended settings script answers × IsAnsweredEnd settings script answers)

-- It ends nowhere: the bench can't be made, a byte of the script passes a bound, the script doesn't have the line, or
-- the line has no answer.
abbrev pub LacksEnd : Settings → List ℕ → ℕ → ReportFault → Type 0
LacksEnd settings script n (fault.New f) = IsNewFault settings f
LacksEnd settings script n fault.TooLong = Passes settings script
LacksEnd settings script n (fault.NoLine k) = LacksLine script (Some n) k
LacksEnd settings script n fault.Aside = IsSilent settings script (Some n) fault.Aside
LacksEnd settings script n fault.Dropped = IsSilent settings script (Some n) fault.Dropped
LacksEnd settings script n fault.Write = ⊥
LacksEnd settings script n (fault.NoTask task) = ⊥

abbrev pub EndsAt : Settings → List ℕ → ℕ → Result ℕ ReportFault → Type 0
EndsAt settings script n (Ok at) = IsEndAt settings script n at
EndsAt settings script n (Err f) = LacksEnd settings script n f

-- After the statement of a line, or, if no line is asked for, after the whole script.
abbrev pub IsEndOf : Settings → List ℕ → Option ℕ → ℕ → Type 0
IsEndOf settings script None at = at ≡ length script
IsEndOf settings script (Some n) at = IsEndAt settings script n at

abbrev pub LacksEndOf : Settings → List ℕ → Option ℕ → ReportFault → Type 0
LacksEndOf settings script None f = ⊥
LacksEndOf settings script (Some n) f = LacksEnd settings script n f

abbrev pub EndsAs : Settings → List ℕ → Option ℕ → Result ℕ ReportFault → Type 0
EndsAs settings script line (Ok at) = IsEndOf settings script line at
EndsAs settings script line (Err f) = LacksEndOf settings script line f
