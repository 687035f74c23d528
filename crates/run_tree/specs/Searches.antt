-- Where searches over a list of runs lead.
use Rattle.std.specs.Prelude.{◌≡◌, ℕ, ◌+◌, ◌-◌, ◌<◌, ◌≤◌, List, length, slice_index_or}
use Rattle.run_tree.specs.declared.run.Run.{Run}
use Rattle.run_tree.specs.declared.tree.FoundRun.{FoundRun}

abbrev pub none : Run
none = record { start = 0; len = 0 }

-- the run at i
abbrev pub run_at : List Run → ℕ → Run
run_at rs i = slice_index_or rs i none

-- the run before the place ends at n or before, and the one at the place after n
pub record SeeksTo (n : ℕ) (rs : List Run) (k : ℕ) : Type 0 where
  pub within : k ≤ length rs
  pub before : 0 < k → (run_at rs (k - 1)).start + (run_at rs (k - 1)).len ≤ n
  pub behind : k < length rs → n < (run_at rs k).start + (run_at rs k).len

-- so does this search, which returns the runs on both sides, or what it was given for them
pub record FindsRuns (n : ℕ) (before behind : Run) (rs : List Run) (f : FoundRun) : Type 0 where
  pub seeks : SeeksTo n rs f.index
  pub last : 0 < f.index → f.before ≡ run_at rs (f.index - 1)
  pub first : f.index ≡ 0 → f.before ≡ before
  pub next : f.index < length rs → f.behind ≡ run_at rs f.index
  pub end : length rs ≤ f.index → f.behind ≡ behind

-- the first run from a place on that has room for len is at k, or none has and k is the end
pub record RoomsTo (room : Run → ℕ) (rs : List Run) (from len k : ℕ) : Type 0 where
  pub low : from ≤ k
  pub within : k ≤ length rs
  pub none_before : (i : ℕ) → from ≤ i → i < k → room (run_at rs i) < len
  pub there : k < length rs → len ≤ room (run_at rs k)

-- the most room of the runs from a place to before another
pub record IsMost (room : Run → ℕ) (rs : List Run) (from to most : ℕ) : Type 0 where
  pub greatest : (i : ℕ) → from ≤ i → i < to → room (run_at rs i) ≤ most
  pub reached : 0 < most → (i : ℕ) × (from ≤ i) × (i < to) × (room (run_at rs i) ≡ most)
