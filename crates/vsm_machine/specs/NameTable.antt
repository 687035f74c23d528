-- What a table of names holds, and its rows by place.
use Rattle.std.specs.Prelude.{◌≡◌, ℕ, zero, suc, ◌+◌, ◌<◌, ◌⊎◌, Bool, true, Option, Some, None, is_some}
use Rattle.std.specs.Prelude.{List, [], ◌∷◌, ◌++◌}
use Rattle.std.specs.Prelude.{slice_index_or, if◌then◌else◌, map, take}
use Rattle.std.specs.Option.{option_map}
use Rattle.indexmap.specs.IndexMap.{spare}
use Rattle.arrayvec.specs.ArrayString.{ArrayString}
use Rattle.vsm_model.specs.Names.{same_name, word_of}
use Rattle.vsm_machine.specs.declared.names.NameTable.{NameTable}

-- an entry as a row: the characters of the name, and the word
abbrev pub row_of : ArrayString × ℕ → List ℕ × ℕ
row_of entry = (entry.0.bytes, entry.1)

-- the row at a place, if there is one
abbrev pub row_at : List (List ℕ × ℕ) → ℕ → List ℕ × ℕ
row_at rows place = slice_index_or rows place ([], 0)

-- the word of the name at a place
abbrev pub word_at : List (List ℕ × ℕ) → ℕ → ℕ
word_at rows place = (row_at rows place).1

-- the rows, with this word for the name at a place
abbrev pub with_word_at : List (List ℕ × ℕ) → ℕ → ℕ → List (List ℕ × ℕ)
with_word_at [] place word = []
with_word_at (row ∷ rows) zero word = (row.0, word) ∷ rows
with_word_at (row ∷ rows) (suc place) word = row ∷ with_word_at rows place word

-- the place of a name, if one of the rows has it
abbrev pub place_in : List (List ℕ × ℕ) → List ℕ → Option ℕ
place_in [] name = None
place_in (row ∷ rows) name = if same_name row.0 name then Some 0 else option_map suc (place_in rows name)

-- every row of the table: those that are defined, then those that are undone
abbrev pub all_rows : NameTable → List (List ℕ × ℕ)
all_rows t = map row_of t.table.entries

-- the names that are defined, with their words, in the order in which they were defined
abbrev pub rows_of : NameTable → List (List ℕ × ℕ)
rows_of t = take t.defined (all_rows t)

-- the names of all rows: those that are defined, then those that are undone, in the order in which they would be
-- defined again
abbrev pub names_of : NameTable → List (List ℕ)
names_of t = map (λ row. row.0) (all_rows t)

-- the table holds the name, defined or undone
abbrev pub knows : NameTable → List ℕ → Bool
knows t name = is_some (word_of (all_rows t) name)

-- the table holds the name, or can add another without memory
abbrev pub HasRoom : NameTable → List ℕ → Type 0
HasRoom t name = (knows t name ≡ true) ⊎ (0 < spare t.table)

-- a name that the table didn't hold is this one, if it is one
abbrev pub GetsOnly : NameTable → NameTable → Option (List ℕ) → Type 0
GetsOnly old new own = (name : List ℕ) → knows new name ≡ true → (knows old name ≡ true) ⊎ (own ≡ Some name)

-- the first row after the defined ones is that of the name
abbrev pub IsNext : NameTable → List ℕ → Type 0
IsNext t name = (word : ℕ) × (take (t.defined + 1) (all_rows t) ≡ rows_of t ++ (name, word) ∷ [])
