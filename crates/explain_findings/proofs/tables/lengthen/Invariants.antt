use Rattle.std.proofs.Common.{◌≡◌, ◌-◌, ℕ, slice_get, unwrap_or, vec_len}
use Rattle.explain_findings.proofs.tables.lengthen.Given as goal

abbrev pub invariant-loop-places : goal.invariant-loop-places
invariant-loop-places l = (line : ℕ) → unwrap_or (slice_get l.places.items line) 0 ≡ unwrap_or (slice_get l.initial.places.items line) 0

abbrev pub decreases-loop-places : goal.decreases-loop-places
decreases-loop-places l = l.count - vec_len l.places
