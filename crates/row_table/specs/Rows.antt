-- Rows as a list: what is under two numbers.
use Rattle.std.specs.Prelude.{◌≡◌, ℕ, Bool, true, false, ◌&&◌, ◌==◌, List, [], ◌∷◌, Option, Some, None, slice_index_or}
use Rattle.std.specs.Prelude.{◌||◌, ◌^◌, ◌<◌, nat_lt, if◌then◌else◌}
use Rattle.vsm_elements.specs.Chain.{Link}
use Rattle.row_table.specs.declared.row.Row.{Row}

-- the word at this place, from 0 on
abbrev pub word : List ℕ → ℕ → ℕ
word words k = slice_index_or words k 0

-- the two keys are equal
abbrev pub same_key : ℕ → ℕ → ℕ → ℕ → Bool
same_key first second a b = (first == a) && (second == b)

-- the first key is before the other: by the second number, and then by the first
abbrev pub comes_before : ℕ → ℕ → ℕ → ℕ → Bool
comes_before first second a b = nat_lt second b || ((second == b) && nat_lt first a)

-- words that begin with these two
abbrev pub is_under : ℕ → ℕ → List ℕ → Bool
is_under a b words = same_key (word words 0) (word words 1) a b

-- the first row under these two numbers
abbrev pub row_in : ℕ → ℕ → List Link → Option Row
row_in a b [] = None
row_in a b (n ∷ ns) = if is_under a b n.words then Some (record { id = n.id; words = n.words }) else row_in a b ns

-- each of the links is after this key
abbrev pub AllBehind : ℕ → ℕ → List Link → Type 0
AllBehind a b [] = Unit {0}
AllBehind a b (n ∷ ns) = (comes_before a b (word n.words 0) (word n.words 1) ≡ true) × AllBehind a b ns

-- each of them is before it
abbrev pub AllBefore : ℕ → ℕ → List Link → Type 0
AllBefore a b [] = Unit {0}
AllBefore a b (n ∷ ns) = (comes_before (word n.words 0) (word n.words 1) a b ≡ true) × AllBefore a b ns

-- none of them is after it
abbrev pub NoneBehind : ℕ → ℕ → List Link → Type 0
NoneBehind a b [] = Unit {0}
NoneBehind a b (n ∷ ns) = (comes_before a b (word n.words 0) (word n.words 1) ≡ false) × NoneBehind a b ns

-- the links ascend by their keys
abbrev pub Ascends : List Link → Type 0
Ascends [] = Unit {0}
Ascends (n ∷ ns) = AllBehind (word n.words 0) (word n.words 1) ns × Ascends ns

-- each of the rows is after this key
abbrev pub RowsBehind : ℕ → ℕ → List Row → Type 0
RowsBehind a b [] = Unit {0}
RowsBehind a b (r ∷ rs) = (comes_before a b (word r.words 0) (word r.words 1) ≡ true) × RowsBehind a b rs

-- the rows ascend by their keys
abbrev pub AreInOrder : List Row → Type 0
AreInOrder [] = Unit {0}
AreInOrder (r ∷ rs) = RowsBehind (word r.words 0) (word r.words 1) rs × AreInOrder rs

-- the first number of each of the rows is one of 256
abbrev pub AreLow : List Row → Type 0
AreLow [] = Unit {0}
AreLow (r ∷ rs) = (word r.words 0 < 256) × AreLow rs

-- the first of the rows under these two numbers
abbrev pub row_among : ℕ → ℕ → List Row → Option Row
row_among a b [] = None
row_among a b (r ∷ rs) = if is_under a b r.words then Some r else row_among a b rs

-- the row, or else this one
abbrev pub row_or : Row → Option Row → Row
row_or r None = r
row_or r (Some q) = q

-- the last of the rows
abbrev pub last_row : List Row → Option Row
last_row [] = None
last_row (r ∷ rs) = Some (row_or r (last_row rs))

-- no two rows are under the same numbers
abbrev pub Single : List Link → Type 0
Single [] = Unit {0}
Single (n ∷ ns) = (row_in (word n.words 0) (word n.words 1) ns ≡ None) × Single ns

-- the first of the two that exists
abbrev pub either_of : {A : Type 0} → Option A → Option A → Option A
either_of None y = y
either_of (Some x) y = Some x

-- both numbers are in the range of a row's
pub record IsInRange (words : List ℕ) : Type 0 where
  pub first : word words 0 < 256
  pub second : word words 1 < 2 ^ 24
