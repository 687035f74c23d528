use Rattle.std.proofs.Common.{◌≤◌, ◌-◌, List, [], length, take}
use Rattle.vsm_model.specs.declared.limits.Settings.{Settings}
use Rattle.script_steps.specs.Output.{Marked}
use Rattle.script_steps.specs.Taken.{Took}
use Rattle.explain_why.specs.Defined.{IsDefinition}
use Rattle.explain_why.proofs.definitions.follow.Given as goal

abbrev pub invariant-loop-at : goal.invariant-loop-at
invariant-loop-at g l =
    (l.at ≤ length l.lines)
    × ((settings : Settings) → Took settings [] [] l.fn.session → (answers : List Marked) × Took settings (take l.at l.lines) answers l.session
    × IsDefinition settings l.name.bytes answers l.definition)

abbrev pub decreases-loop-at : goal.decreases-loop-at
decreases-loop-at g l = length l.lines - l.at
