use Rattle.std.proofs.Common.{◌≡◌, ◌≤◌, ◌-◌, List, length, take}
use Rattle.vsm_model.specs.declared.limits.Settings.{Settings}
use Rattle.script_steps.specs.Output.{Marked}
use Rattle.script_steps.specs.Taken.{Took}
use Rattle.explain_why.proofs.lines.put_answer_at.Given as goal

abbrev pub invariant-loop-at : goal.invariant-loop-at
invariant-loop-at g l =
    (l.at ≤ length l.script) × (g.W.Write.contents l.writer ≡ g.W.Write.contents l.fn.writer) × (l.gathered ≡ l.fn.gathered)
    × ((settings : Settings) (before : List Marked) → Took settings (take l.fn.at l.script) before l.fn.session
    → Took settings (take l.at l.script) before l.session)

abbrev pub decreases-loop-at : goal.decreases-loop-at
decreases-loop-at g l = length l.script - l.at
