use Rattle.std.proofs.Common.{◌≤◌, ◌-◌, ℕ, List, [], length, take, Option}
use Rattle.vsm_model.specs.declared.limits.Settings.{Settings}
use Rattle.explain_report.specs.OverTime.{Rows}
use Rattle.explain_report.proofs.changes.put_lines.Given as goal

abbrev pub invariant-loop-at : goal.invariant-loop-at
invariant-loop-at g l = (l.at ≤ length l.script)
    × ((settings : Settings) (seen : Option (ℕ × ℕ)) (first : Option (List ℕ)) → Rows settings seen first (g.W.Write.contents l.fn.out) l.fn.gathered [] l.fn.session l.fn.figures
    → Rows settings seen first (g.W.Write.contents l.out) l.gathered (take l.at l.script) l.session l.figures)

abbrev pub decreases-loop-at : goal.decreases-loop-at
decreases-loop-at g l = length l.script - l.at
