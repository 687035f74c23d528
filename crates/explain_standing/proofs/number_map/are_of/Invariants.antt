use Rattle.std.proofs.Common.{◌≡◌, ◌≤◌, ◌<◌, ℕ, true, slice_get}
use Rattle.explain_standing.specs.NumberMaps.{joined}
use Rattle.explain_standing.specs.NumberMaps.{same_number}
use Rattle.explain_standing.proofs.number_map.are_of.Given as goal

abbrev pub invariant-loop-d : goal.invariant-loop-d
invariant-loop-d l = (k : ℕ) → l.from ≤ k → k < l.d → same_number l.number (joined (slice_get l.numbers k)) ≡ true
