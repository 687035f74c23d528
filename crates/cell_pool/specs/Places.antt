-- The extents of a pool by address: a row for each, under the address at which it begins.
use Rattle.std.specs.Prelude.{◌≡◌, ℕ, ◌+◌, ◌*◌, ◌/◌, ◌%◌, ◌<◌, ◌≤◌, ◌==◌, ◌||◌, Bool, true, nat_le, if◌then◌else◌}
use Rattle.std.specs.Prelude.{List, [], ◌∷◌, Option, Some, None, option_map}
use Rattle.list_table.specs.Entries.{word}
use Rattle.cell_pool.specs.declared.settings.Extent.{Extent}
use Rattle.cell_pool.specs.Pool.{Pool, overlaps}
use Rattle.cell_pool.specs.Notes.{is_at}

-- the words of an extent's row: its address as a key, and again, the count of its cells, and their size
abbrev pub place_words : ℕ → Extent → List ℕ
place_words size x = x.start % 256 ∷ x.start / 256 ∷ x.start ∷ x.count ∷ size ∷ 0 ∷ 0 ∷ []

-- the words of the row under an address
abbrev pub placed_at : ℕ → List (List ℕ) → Option (List ℕ)
placed_at a [] = None
placed_at a (ws ∷ rest) = if is_at a ws then Some ws else placed_at a rest

-- the first of the extents that begins at an address
abbrev pub beginning_at : ℕ → List Extent → Option Extent
beginning_at a [] = None
beginning_at a (x ∷ xs) = if a == x.start then Some x else beginning_at a xs

-- each extent of the pool has its row, and no row is another's
abbrev pub ArePlaced : Pool → List (List ℕ) → Type 0
ArePlaced p rows =
    (a : ℕ) → placed_at a rows ≡ option_map (place_words p.settings.size) (beginning_at a p.extents)

-- the cells of one of the two end before those of the other begin
abbrev pub lie_apart : ℕ → Extent → Extent → Bool
lie_apart size x y = nat_le (x.start + x.count * size) y.start || nat_le (y.start + y.count * size) x.start

-- the extent lies apart from each of these
abbrev pub LiesBeside : ℕ → Extent → List Extent → Type 0
LiesBeside size x [] = Unit {0}
LiesBeside size x (y ∷ ys) = (lie_apart size x y ≡ true) × LiesBeside size x ys

-- each of the extents has a cell, and any two lie apart
abbrev pub AreSeparate : ℕ → List Extent → Type 0
AreSeparate size [] = Unit {0}
AreSeparate size (x ∷ xs) = (0 < x.count) × LiesBeside size x xs × AreSeparate size xs

-- An area overlaps the extent that a row says.
abbrev pub overlaps_place : ℕ → ℕ → List ℕ → Bool
overlaps_place start len ws = overlaps (word ws 4) start len (record { start = word ws 2; count = word ws 3 })

-- how many bytes the cells have that a row says
abbrev pub place_bytes : List ℕ → ℕ
place_bytes ws = word ws 3 * word ws 4

-- each of the rows says an extent that begins at this address or after it
abbrev pub BeginFrom : ℕ → List (List ℕ) → Type 0
BeginFrom end [] = Unit {0}
BeginFrom end (ws ∷ rest) = (end ≤ word ws 2) × BeginFrom end rest

-- the rows say extents with cells, each after the cells of those before it
abbrev pub AreSpread : List (List ℕ) → Type 0
AreSpread [] = Unit {0}
AreSpread (ws ∷ rest) =
    (0 < place_bytes ws) × BeginFrom (word ws 2 + place_bytes ws) rest × AreSpread rest
