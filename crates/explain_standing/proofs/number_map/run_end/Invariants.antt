use Rattle.std.proofs.Common.{◌≡◌, ◌-◌, ◌≤◌, ◌<◌, ℕ, slice_get}
use Rattle.explain_standing.specs.NumberMaps.{joined}
use Rattle.explain_standing.proofs.number_map.run_end.Given as goal

abbrev pub invariant-loop-at : goal.invariant-loop-at
invariant-loop-at l = record {
  on : l.from < l.at;
  within : l.at ≤ l.limit;
  same : (d : ℕ) → l.from ≤ d → d < l.at → joined (slice_get l.numbers d) ≡ joined (slice_get l.numbers l.from);
}

abbrev pub decreases-loop-at : goal.decreases-loop-at
decreases-loop-at l = l.limit - l.at
