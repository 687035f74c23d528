-- Laws of tables of rows.
use Rattle.std.specs.Prelude.{◌≡◌, ℕ, true, List, Some, map}
use Rattle.vsm_elements.specs.Store.{Store, at, among, SameElements}
use Rattle.vsm_elements.specs.Ownership.{Owns, Leaves, Apart}
use Rattle.row_table.specs.declared.places.RowPlace.{RowPlace}
use Rattle.row_table.specs.declared.row.Row.{Row}
use Rattle.row_table.specs.declared.table.RowTable.{RowTable}
use Rattle.row_table.specs.Rows.{word, AreInOrder, AreLow, row_among}
use Rattle.row_table.specs.RowTable.{row, rows, owned, words_of, IsTable, IsPlace}

-- a table that elements hold owns them, and its rows are under their own first two words, which are those of their
-- elements
abbrev pub TablesStand : Type 0
TablesStand = (s : Store) (q : RowTable) → IsTable s q
    → Owns s (owned s q)
    × ((a b : ℕ) (r : Row) → row s q a b ≡ Some r
    → (word r.words 0 ≡ a) × (word r.words 1 ≡ b) × (words_of s r.id ≡ r.words))

-- the rows ascend, and the row under two numbers is the one among them
abbrev pub RowsAscend : Type 0
RowsAscend = (s : Store) (q : RowTable) → IsTable s q
    → AreInOrder (rows s q) × ((a b : ℕ) → row s q a b ≡ row_among a b (rows s q))

-- a place in a table whose elements are as they were stays one
abbrev pub PlacesKept : Type 0
PlacesKept = (s t : Store) (q : RowTable) (place : RowPlace) → IsTable s q
    → ((id : ℕ) → among id (owned s q) ≡ true → at t id ≡ at s id)
    → IsPlace s q place → IsPlace t q place

-- an id is a table's exactly if a row has it
abbrev pub RowIdsAre : Type 0
RowIdsAre = (s : Store) (q : RowTable) (i : ℕ) → IsTable s q
    → (among i (owned s q) ≡ true → (a : ℕ) × (b : ℕ) × (r : Row) × ((row s q a b ≡ Some r) × (r.id ≡ i)))
    × ((a b : ℕ) (r : Row) → row s q a b ≡ Some r → among r.id (owned s q) ≡ true)

-- a table's elements are those of its rows, in their order
abbrev pub RowsOwn : Type 0
RowsOwn = (s : Store) (q : RowTable) → owned s q ≡ map (λ r. r.id) (rows s q)

-- the first number of each row is one of 256
abbrev pub RowsAreLow : Type 0
RowsAreLow = (s : Store) (q : RowTable) → AreLow (rows s q)

-- two tables that have the same row under each two numbers have the same rows in the same order
abbrev pub RowsAreOne : Type 0
RowsAreOne = (xs ys : List Row) → AreInOrder xs → AreInOrder ys
    → ((a b : ℕ) → row_among a b xs ≡ row_among a b ys) → xs ≡ ys

-- a table whose elements are unchanged is unchanged
abbrev pub TablesKept : Type 0
TablesKept = (s t : Store) (q : RowTable) → IsTable s q
    → ((id : ℕ) → among id (owned s q) ≡ true → at t id ≡ at s id)
    → IsTable t q × ((a b : ℕ) → row t q a b ≡ row s q a b) × (owned t q ≡ owned s q) × (rows t q ≡ rows s q)

-- a table that is apart from what a call owns is unchanged
abbrev pub TablesStay : Type 0
TablesStay = (s t : Store) (had has : List ℕ) (q : RowTable) → Leaves s t had has → IsTable s q → Apart had (owned s q)
    → IsTable t q × ((a b : ℕ) → row t q a b ≡ row s q a b) × (owned t q ≡ owned s q) × (rows t q ≡ rows s q)

-- if every id keeps what it had, so does every table
abbrev pub GrowthKeepsTables : Type 0
GrowthKeepsTables = (s t : Store) (q : RowTable) → SameElements s t → IsTable s q
    → IsTable t q × ((a b : ℕ) → row t q a b ≡ row s q a b) × (owned t q ≡ owned s q) × (rows t q ≡ rows s q)
