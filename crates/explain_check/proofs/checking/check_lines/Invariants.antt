use Rattle.std.proofs.Common.{◌≤◌, ◌-◌, ℕ, false, List, length, Option}
use Rattle.vsm_model.specs.declared.limits.Settings.{Settings}
use Rattle.explain_check.specs.Checked.{found_by_source, Checks}
use Rattle.explain_check.specs.Lines.{manner_of}
use Rattle.explain_check.proofs.checking.check_lines.Given as goal

abbrev pub invariant-loop-at : goal.invariant-loop-at
invariant-loop-at g l = (l.at ≤ length l.source.script.now)
    × ((settings : Settings) (first : Option (List ℕ)) → Checks settings l.source.script.now (manner_of l.source.manner) (found_by_source l.source) first (g.W.Write.contents l.fn.writer) l.fn.gathered l.fn.page false 0 l.fn.session
    → Checks settings l.source.script.now (manner_of l.source.manner) (found_by_source l.source) first (g.W.Write.contents l.writer) l.gathered l.page l.wrong l.at l.session)

abbrev pub decreases-loop-at : goal.decreases-loop-at
decreases-loop-at g l = length l.source.script.now - l.at
