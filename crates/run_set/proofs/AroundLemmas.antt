-- The runs on both sides of a number.
use Rattle.std.proofs.Common.{◌≡◌, ℕ, ◌+◌, ◌-◌, ◌<◌, ◌≤◌, true, List, length, take, Option, Some, None, MatchOption, refl, ap, arith}
use Rattle.std.specs.Prelude.{slice_get, IfSome}
use Rattle.run_tree.specs.declared.run.Run.{Run}
use Rattle.run_set.specs.Runs.{inside, contains, Spaced, AreRunsOf, IsMaximalRun, IsGap}
use Rattle.run_set.specs.Kept.{bound}
use Rattle.run_set.proofs.RunLemmas.{true_inside}
use Rattle.run_set.proofs.PlaceLemmas.{bound_run}
use Rattle.run_set.proofs.CoverLemmas.{none_left, end_of_gap}
use Rattle.run_set.proofs.MaximalLemmas.{runs_are_maximal}

module _ (zs : List Run) (k n : ℕ) (sound : Spaced 0 zs) (within : k ≤ length zs) (reach : bound 0 (take k zs) ≤ n + 1) where
  is_maximal : (i : ℕ) (r : Run) → slice_get zs i ≡ Some r → IsMaximalRun (λ m. contains m zs) r
  is_maximal = (runs_are_maximal (λ m. contains m zs) zs (record { spaced = sound; holds = λ m. refl })).0

  -- the run before the place, if there is one
  abbrev IsPassed : Option Run → Type 0
  IsPassed o = MatchOption o (k ≡ 0) (λ r. (0 < k) × (slice_get zs (k - 1) ≡ Some r))

  ends : (r : Run) → 0 < k → slice_get zs (k - 1) ≡ Some r → bound 0 (take k zs) ≡ r.start + r.len + 1
  ends r some e = bound_run zs (k - 1) k r e (omega (arith, some, within)) (omega (arith, some))

  passed : (o : Option Run) → IsPassed o → IfSome o (λ r. IsMaximalRun (λ m. contains m zs) r × (r.start + r.len ≤ n))
  passed None h = tt
  passed (Some r) h = (is_maximal (k - 1) r h.1, omega (arith, reach, ends r h.0 h.1))

  -- what is after that run is after all runs before the place
  reaches : (o : Option Run) (m : ℕ) → IsPassed o → IfSome o (λ r. r.start + r.len ≤ m) → bound 0 (take k zs) ≤ m + 1
  reaches None m h low = let e : bound 0 (take k zs) ≡ 0 = ap (λ (i : ℕ). bound 0 (take i zs)) h in omega (arith, e)
  reaches (Some r) m h low = omega (arith, ends r h.0 h.1, low)

  pub gap_at_end : (o : Option Run) → IsPassed o → length zs ≤ k → IsGap (λ m. contains m zs) n (record { before = o; after = None })
  gap_at_end o h all = record {
    before = passed o h;
    after = tt;
    between = λ m low high. none_left zs k m m sound all (reaches o m h low) (omega arith);
  }

  module _ (y : Run) (e : slice_get zs k ≡ Some y) (l : k < length zs) where
    pub gap_before : (o : Option Run) → IsPassed o → n < y.start → IsGap (λ m. contains m zs) n (record { before = o; after = Some y })
    gap_before o h out = record {
      before = passed o h;
      after = (is_maximal k y e, out);
      between = λ m low high. (end_of_gap zs k y sound e l m (reaches o m h low) (omega (arith, high)) high).past;
    }

    pub held_by : n < y.start + y.len → y.start ≤ n → IsMaximalRun (λ m. contains m zs) y × (inside n y ≡ true)
    held_by high low = (is_maximal k y e, true_inside n y low high)
