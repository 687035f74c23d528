use Rattle.std.proofs.Common.{◌≡◌, ◌-◌, ◌≤◌, ℕ, Some, if◌then◌else◌, nat_le, nat_lt, ◌&&◌}
use Rattle.explain_standing.specs.NumberMaps.{number_in}
use Rattle.explain_standing.proofs.number_map.NumberMap.take.Given as goal

abbrev pub invariant-loop-at : goal.invariant-loop-at
invariant-loop-at l = record {
  from : l.first ≤ l.at;
  to : l.at ≤ l.end;
  numbers : (d : ℕ) → number_in l.self d ≡ (if nat_le l.first d && nat_lt d l.at then Some l.number else number_in l.initial.self d);
}

abbrev pub decreases-loop-at : goal.decreases-loop-at
decreases-loop-at l = l.end - l.at
