-- Runs of numbers in short: how many numbers and how many runs there are, and the longest.
-- Assembler Services Guide, "Virtual storage management".
use Rattle.std.specs.Prelude.{◌≡◌, ℕ, ◌+◌, ◌<◌, ◌≤◌, max, nat_lt, if◌then◌else◌, List, [], ◌∷◌, length, slice_get, Some}
use Rattle.run_set.specs.Runs.{Run}
pub use Rattle.run_set.specs.Sums.{low_runs, high_runs}
use Rattle.storage_changes.specs.MapTotals.{sum_of}
use Rattle.explain_report.specs.declared.tallies.Tally.{Tally}

abbrev pub no_runs : Tally
no_runs = record { total = 0; count = 0; longest = 0; at = 0 }

-- with another run: of runs of one length the first counts
abbrev pub with_run : Tally → Run → Tally
with_run t r =
    record {
      total = t.total + r.len;
      count = t.count + 1;
      longest = max t.longest r.len;
      at = if nat_lt t.longest r.len then r.start else t.at;
    }

abbrev pub with_runs : Tally → List Run → Tally
with_runs t [] = t
with_runs t (r ∷ rs) = with_runs (with_run t r) rs

-- all of these runs, one after the other
abbrev pub tally_of : List Run → Tally
tally_of rs = with_runs no_runs rs

-- with the runs of another tally after them
abbrev pub with_tally : Tally → Tally → Tally
with_tally t u =
    record {
      total = t.total + u.total;
      count = t.count + u.count;
      longest = max t.longest u.longest;
      at = if nat_lt t.longest u.longest then u.at else t.at;
    }

-- the numbers of all runs
abbrev pub numbers_in : List Run → ℕ
numbers_in rs = sum_of (λ r. r.len) rs

-- What a tally says of its runs: how many numbers and runs there are; that none is longer than the longest; and, if it
-- isn't empty, that it's one of them, by its first number and its length.
pub record IsTallyOf (rs : List Run) (t : Tally) : Type 0 where
  pub total : t.total ≡ numbers_in rs
  pub count : t.count ≡ length rs
  pub most : (i : ℕ) (r : Run) → slice_get rs i ≡ Some r → r.len ≤ t.longest
  pub reached : 0 < t.longest → (i : ℕ) × (slice_get rs i ≡ Some (record { start = t.at; len = t.longest }))

abbrev pub TalliesAreOfRuns : Type 0
TalliesAreOfRuns = (rs : List Run) → IsTallyOf rs (tally_of rs)
