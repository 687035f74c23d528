use Rattle.std.proofs.Common.{◌≤◌, [], length, drop, reverse, take}
use Rattle.vsm_model.specs.declared.limits.Settings.{Settings}
use Rattle.explain_findings.specs.Replays.{AreRead, IsReplayed, Rises, depths, first_acts}
use Rattle.explain_standing.specs.Standings.{acts_in}
use Rattle.explain_findings.proofs.replay.judge_all.Given as goal

abbrev pub invariant-loop-reading : goal.invariant-loop-reading
invariant-loop-reading l =
    (l.done ≤ length l.entries) × Rises l.done (depths (drop l.reading-index l.readings)) (length l.entries)
    × ((settings : Settings) → IsReplayed settings [] l.initial.replay → AreRead settings [] [] l.initial.replay.found.readings →
    IsReplayed settings (first_acts l.entries l.done) l.replay
    × AreRead settings (reverse (acts_in l.entries)) (take l.reading-index l.readings) l.replay.found.readings)
