use Rattle.std.proofs.Common.{◌-◌, ◌≤◌, List, length, take}
use Rattle.script_steps.specs.Output.{Marked}
use Rattle.script_steps.specs.Taken.{Took}
use Rattle.explain_standing.specs.Standings.{Follows}
use Rattle.explain_standing.proofs.standing.follow.Given as goal

abbrev pub invariant-loop-session : goal.invariant-loop-session
invariant-loop-session g l = (l.at ≤ length l.script)
    × ((answers : List Marked) × Took l.fn.settings (take l.at l.script) answers l.session × Follows l.fn.settings answers l.followed)

abbrev pub decreases-loop-session : goal.decreases-loop-session
decreases-loop-session g l = length l.script - l.at
