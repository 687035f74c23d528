use Rattle.std.proofs.Common.{◌≡◌, ℕ, Some, if◌then◌else◌, nat_le, nat_lt, ◌&&◌, slice_get}
use Rattle.explain_standing.proofs.number_map.set_numbers.Given as goal

abbrev pub invariant-loop-d : goal.invariant-loop-d
invariant-loop-d l = (k : ℕ) → slice_get l.numbers k ≡ (if nat_le l.from k && nat_lt k l.d then Some (Some l.number) else slice_get l.initial.numbers k)
