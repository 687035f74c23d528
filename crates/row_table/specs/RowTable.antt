-- What a contract sees of a `RowTable`: the row under two numbers, and the elements that the table owns.
--
-- The definitions are closed, so that nothing above depends on how the elements hold the rows.
use Rattle.std.specs.Prelude.{◌≡◌, ℕ, List, Option, Some, map, drop}
use Rattle.vsm_elements.specs.Store.{Store}
use Rattle.vsm_elements.specs.Chain.{Link, element}
use Rattle.row_table.specs.Trees
use Rattle.row_table.specs.Keys.{links, seven}
use Rattle.row_table.specs.declared.places.RowPlace.{RowPlace}
use Rattle.row_table.specs.declared.row.Row.{Row}
use Rattle.row_table.specs.declared.table.RowTable.{RowTable}
use Rattle.row_table.specs.Rows.{word, row_in}
use Rattle.row_table.specs.Kept.{IsKept, StandsAt}

-- the row under these two numbers
unfoldable pub row : Store → RowTable → ℕ → ℕ → Option Row
row s q a b = row_in a b (links s q.tree)

abbrev pub row_of : Link → Row
row_of n = record { id = n.id; words = n.words }

-- all rows, in ascending order by their second number and then by their first
unfoldable pub rows : Store → RowTable → List Row
rows s q = map row_of (links s q.tree)

-- how many of the rows are before the place
unfoldable pub place_index : RowPlace → ℕ
place_index place = place.index

-- the id of the row before the place
unfoldable pub id_before : RowPlace → ℕ
id_before place = place.before

-- the place is before, between or after the table's rows
unfoldable pub IsPlace : Store → RowTable → RowPlace → Type 0
IsPlace s q place = StandsAt s q.tree place.index place.before

-- the ids of the table's elements
unfoldable pub owned : Store → RowTable → List ℕ
owned s q = Trees.owned s q.tree

-- these elements hold the table
unfoldable pub IsTable : Store → RowTable → Type 0
IsTable s q = IsKept s q.tree

-- the words of the element of this id
unfoldable pub words_of : Store → ℕ → List ℕ
words_of s id = seven (drop 1 ((element s id).words))

-- the id is that of a row of the table
abbrev pub IsRow : Store → RowTable → ℕ → Type 0
IsRow s q id =
    row s q (word (words_of s id) 0) (word (words_of s id) 1) ≡ Some (record { id = id; words = words_of s id })

-- the table whose head is kept in this word
unfoldable pub table_of : ℕ → RowTable
table_of root = record { tree = Trees.tree_of root }
