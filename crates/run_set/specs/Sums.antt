-- The sums of some runs: how many numbers and how many runs there are, and the longest.
use Rattle.std.specs.Prelude.{◌≡◌, ℕ, ◌+◌, ◌<◌, ◌≤◌, nat_lt, if◌then◌else◌}
use Rattle.std.specs.Prelude.{List, [], ◌∷◌, ◌++◌, length, slice_get, Some}
use Rattle.run_tree.specs.declared.run.Run.{Run}
use Rattle.run_set.specs.declared.sums.SideSums.{SideSums}
use Rattle.run_set.specs.declared.sums.Sums.{Sums}

-- the numbers of all runs
abbrev pub numbers_in : List Run → ℕ
numbers_in [] = 0
numbers_in (r ∷ rs) = r.len + numbers_in rs

-- the runs that begin before a line, and those that don't
abbrev pub low_runs : ℕ → List Run → List Run
low_runs line [] = []
low_runs line (r ∷ rs) = if nat_lt r.start line then r ∷ low_runs line rs else low_runs line rs

abbrev pub high_runs : ℕ → List Run → List Run
high_runs line [] = []
high_runs line (r ∷ rs) = if nat_lt r.start line then high_runs line rs else r ∷ high_runs line rs

-- the run at i is a longest one, and each before it is shorter
pub record IsFirstLongest (rs : List Run) (i start len : ℕ) : Type 0 where
  pub is : slice_get rs i ≡ Some (record { start = start; len = len })
  pub before : (j : ℕ) (r : Run) → j < i → slice_get rs j ≡ Some r → r.len < len

-- There are that many numbers and runs; none is longer than the longest; and the first of that length begins at that
-- number, which is 0 if the longest is 0.
pub record IsSumsOf (rs : List Run) (s : Sums) : Type 0 where
  pub total : s.total ≡ numbers_in rs
  pub count : s.count ≡ length rs
  pub most : (j : ℕ) (r : Run) → slice_get rs j ≡ Some r → r.len ≤ s.longest
  pub first : 0 < s.longest → (i : ℕ) × IsFirstLongest rs i s.at s.longest
  pub none : s.longest ≡ 0 → s.at ≡ 0

-- those on both sides of a line; all that begin before it are first
pub record IsSidesOf (line : ℕ) (rs : List Run) (s : SideSums) : Type 0 where
  pub low : IsSumsOf (low_runs line rs) s.low
  pub high : IsSumsOf (high_runs line rs) s.high
  pub order : low_runs line rs ++ high_runs line rs ≡ rs
