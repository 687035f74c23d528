use Rattle.std.proofs.Common.{◌-◌, ◌≤◌, drop, length}
use Rattle.explain_who.specs.ScriptLines.{LinesBegin}
use Rattle.explain_who.proofs.starts.line_starts.Given as goal

abbrev pub invariant-loop-at : goal.invariant-loop-at
invariant-loop-at l = (l.at ≤ length l.script) × LinesBegin l.script l.script l.starts.items (drop l.at l.script)

abbrev pub decreases-loop-at : goal.decreases-loop-at
decreases-loop-at l = length l.script - l.at
