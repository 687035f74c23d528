-- The lines of a script's bytes.
use Rattle.std.specs.Prelude.{◌≡◌, ◌≢◌, ℕ, ◌≤◌, ◌<◌, ◌⊎◌, List, [], ◌∷◌, ◌++◌, length, take}
use Rattle.std.specs.List.{flat_map, AllByRecursion}
use Rattle.std.specs.Str.Lines.{strip_carriage_return}

-- columns 1 to 80 of a line that ends at a line feed, without a carriage return before it
abbrev pub columns : List ℕ → List ℕ
columns line = take 80 (strip_carriage_return line)

abbrev pub NoFeed : List ℕ → Type 0
NoFeed bytes = AllByRecursion (λ c. c ≢ 10) bytes

abbrev pub with_feed : List ℕ → List ℕ
with_feed line = line ++ 10 ∷ []

-- a line of at most 65,536 bytes, without its line feed
abbrev pub IsLine : List ℕ → Type 0
IsLine line = NoFeed line × (length line ≤ 65536)

-- These bytes are these lines, each with its line feed, and a rest without one; and they pass no bound: there are at
-- most 1,048,576 lines, counting the rest if there is one.
pub record Within (given : List ℕ) (lines : List (List ℕ)) (rest : List ℕ) : Type 0 where
  pub cut : given ≡ flat_map with_feed lines ++ rest
  pub each : AllByRecursion IsLine lines
  pub unended : IsLine rest
  pub few : length lines ≤ 1048576
  pub room : 0 < length rest → length lines < 1048576

-- The next byte passes a bound: no line may follow, or it would make the line too long.
abbrev pub IsPast : List (List ℕ) → List ℕ → ℕ → Type 0
IsPast lines rest byte = (length lines ≡ 1048576) ⊎ ((byte ≢ 10) × (length rest ≡ 65536))

-- What follows the last line feed is a line if there is anything.
abbrev pub last_line : List ℕ → List (List ℕ)
last_line [] = []
last_line (c ∷ cs) = take 80 (c ∷ cs) ∷ []
