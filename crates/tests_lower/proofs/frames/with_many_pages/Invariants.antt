use Rattle.std.proofs.Common.{◌≡◌, ℕ, ◌+◌, ◌<◌, ◌≤◌, None, IsSome}
use Rattle.raw_region.specs.Pages.{bytes_at, HaveTables}
use Rattle.tests_lower.proofs.frames.with_many_pages.Given as goal

abbrev pub invariant-loop-k : goal.invariant-loop-k
invariant-loop-k l = record {
  assigned : (p : ℕ) → 32768 ≤ p → p < 32768 + l.k → IsSome (bytes_at l.region p);
  unassigned : (p : ℕ) → 32768 + l.k ≤ p → bytes_at l.region p ≡ None;
  tables : HaveTables l.region 32768 l.n;
  spare : l.n ≤ l.region.spare + l.k;
}
