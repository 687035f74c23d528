use Rattle.std.proofs.Common.{◌≤◌, List, [], length, take}
use Rattle.vsm_model.specs.declared.limits.Settings.{Settings}
use Rattle.script_steps.specs.Output.{Marked}
use Rattle.script_steps.specs.Taken.{Took}
use Rattle.explain_why.specs.Explained.{IsLineStart}
use Rattle.explain_why.specs.Faults.{IsBeyond}
use Rattle.explain_why.proofs.lines.seek.Given as goal

abbrev pub invariant-loop : goal.invariant-loop
invariant-loop g l =
    (l.at ≤ length l.script) × IsLineStart l.script l.at
    × ((settings : Settings) → Took settings [] [] l.fn.session → (answers : List Marked) × Took settings (take l.at l.script) answers l.session × IsBeyond l.line l.session.lines)
