use Rattle.std.proofs.Common.{◌≡◌}
use Rattle.explain_findings.specs.Replays.{GoesTo}
use Rattle.explain_findings.proofs.replay.judge_to.Given as goal

abbrev pub invariant-loop-i : goal.invariant-loop-i
invariant-loop-i l =
    GoesTo l.entries l.fn.from l.i l.initial.replay l.replay × (l.replay.found.readings ≡ l.initial.replay.found.readings)
