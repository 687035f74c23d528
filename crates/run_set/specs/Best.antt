-- The best fit among some of the runs. No public clause cites this module.
use Rattle.std.specs.Prelude.{◌≡◌, ℕ, ◌<◌, ◌≤◌, true, List}
use Rattle.run_tree.specs.declared.run.Run.{Run}
use Rattle.run_set.specs.Runs.{inside, contains}
use Rattle.run_set.specs.Fits.{Fits}
use Rattle.run_tree.specs.Searches.{run_at}

-- this many fit somewhere, and no more than that from a number of a run from one place to before another
pub record IsBest (zs : List Run) (region : Run) (boundary from to most : ℕ) : Type 0 where
  pub reached : 0 < most → (a : ℕ) × Fits (λ n. contains n zs) region a most boundary
  pub greatest :
      (i : ℕ) → from ≤ i → i < to → (a n : ℕ) → inside a (run_at zs i) ≡ true →
      Fits (λ d. contains d zs) region a n boundary → n ≤ most
