-- Runs of bytes above one.
use Rattle.std.specs.Prelude.{ℕ, ◌<◌, ◌≤◌, ◌==◌, if◌then◌else◌, List, length, slice_index}
use Rattle.std.specs.Int.{w64, trailing_zeros}

-- From one place up to another each byte is above this one.
abbrev pub AreAbove : ℕ → List ℕ → ℕ → ℕ → Type 0
AreAbove most text from end = (k : ℕ) → from ≤ k → k < end → most < slice_index text k

-- The bytes above this one from a place on go up to here.
pub record IsRun (most : ℕ) (text : List ℕ) (from end : ℕ) : Type 0 where
  pub ordered : from ≤ end
  pub within : end ≤ length text
  pub above : AreAbove most text from end
  pub ends : end < length text → slice_index text end ≤ most

-- The number of the lowest bit that is set, or this number.
abbrev pub lowest_or : ℕ → ℕ → ℕ
lowest_or mask n = if mask == 0 then n else trailing_zeros w64 mask
