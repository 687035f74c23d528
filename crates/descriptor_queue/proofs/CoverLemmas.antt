-- A run is in a set exactly if the set goes on from the first number of the run to its end.
use Rattle.std.proofs.Common.{◌≡◌, ℕ, ◌+◌, ◌<◌, ◌≤◌, ◌⊎◌, inl, inr, Bool, true, false, arith}
use Rattle.run_set.specs.Runs.{Run, AllIn, IsEndFrom}
use Rattle.run_set.proofs.RunLemmas.{inside_true, true_inside, le_or_lt, not_both}

module _ (set : ℕ → Bool) (run : Run) (end : ℕ) (h : IsEndFrom set run.start end) where
  pub covered : run.start + run.len ≤ end → AllIn set run
  covered reach n i =
      let at : (run.start ≤ n) × (n < run.start + run.len) = inside_true n run i in
      h.each n at.0 (omega (arith, at.1, reach))

  pub reached : AllIn set run → run.start + run.len ≤ end
  reached all = elim (le_or_lt (run.start + run.len) end) [
    | inl q ↦ q
    | inr q ↦ absurd (not_both (set end) (all end (true_inside end run h.from q)) h.past)
  ]
