-- Where the statement of a line ends, or why it ends nowhere.
use Rattle.std.proofs.Common.{◌≡◌, ℕ, List, Some, Err, inl, sym, subst}
use Rattle.vsm_model.specs.declared.limits.Settings.{Settings}
use Rattle.macro_reader.specs.Scripts.{Mode, awaiting, dropping, gathering}
use Rattle.script_steps.specs.declared.session.Session.{Session}
use Rattle.explain_report.specs.Reports.{IsSilent, ReachesLine, silence}
use Rattle.explain_report.specs.declared.faults.ReportFault.{ReportFault}
use Rattle.explain_report.specs.declared.faults.ReportFault.TheVariants as fault
use Rattle.explain_report.specs.declared.runs.LastAnswer.{LastAnswer}
use Rattle.explain_areas.specs.Ends.{LacksEnd}

-- a line that has no answer
pub silent_there : (settings : Settings) (script : List ℕ) (n : ℕ) (m : Mode) (f : ReportFault) → f ≡ silence m → IsSilent settings script (Some n) f → LacksEnd settings script n f
silent_there settings script n awaiting f e h = subst (LacksEnd settings script n) (sym e) (subst (IsSilent settings script (Some n)) e h)
silent_there settings script n dropping f e h = subst (LacksEnd settings script n) (sym e) (subst (IsSilent settings script (Some n)) e h)
silent_there settings script n (gathering number card j count) f e h = subst (LacksEnd settings script n) (sym e) (subst (IsSilent settings script (Some n)) e h)

-- lines that weren't taken up to it
pub stopped_before : (settings : Settings) (script : List ℕ) (n : ℕ) (s : Session) (last : LastAnswer) (f : ReportFault) → ReachesLine settings script n s last (Err f) → LacksEnd settings script n f
stopped_before settings script n s last fault.TooLong h = h
stopped_before settings script n s last fault.Aside h = inl h
stopped_before settings script n s last fault.Dropped h = inl h
stopped_before settings script n s last fault.Write h = absurd h
stopped_before settings script n s last (fault.New x) h = absurd h
stopped_before settings script n s last (fault.NoLine k) h = absurd h
stopped_before settings script n s last (fault.NoTask task) h = absurd h
