use Rattle.std.proofs.Common.{◌≡◌, ◌-◌, ◌≤◌, ◌<◌, ℕ, true}
use Rattle.explain_standing.specs.NumberMaps.{number_in}
use Rattle.explain_standing.specs.NumberMaps.{same_number}
use Rattle.explain_standing.proofs.number_map.NumberMap.is_of_one.Given as goal

abbrev pub invariant-loop-at : goal.invariant-loop-at
invariant-loop-at l = record {
  from : l.first ≤ l.at;
  to : l.at ≤ l.end;
  same : (d : ℕ) → l.first ≤ d → d < l.at → same_number l.number (number_in l.self d) ≡ true;
}

abbrev pub decreases-loop-at : goal.decreases-loop-at
decreases-loop-at l = l.end - l.at
