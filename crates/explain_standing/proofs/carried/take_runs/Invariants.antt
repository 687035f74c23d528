use Rattle.std.proofs.Common.{◌≡◌, ℕ, ◌^◌, ◌<◌, if◌then◌else◌, Some, take}
use Rattle.explain_standing.specs.NumberMaps.{number_in}
use Rattle.explain_standing.specs.Newly.{is_in}
use Rattle.explain_standing.proofs.carried.take_runs.Given as goal

abbrev pub invariant-loop-run : goal.invariant-loop-run
invariant-loop-run l =
    (d : ℕ) → d < 2 ^ 32 → number_in l.lines d ≡ (if is_in d (take l.run-index l.runs) then Some l.line else number_in l.initial.lines d)
