-- Rows as items of a tree: the first word of an item is the place of the row's two numbers in their order.
use Rattle.std.specs.Prelude.{ℕ, ◌+◌, ◌*◌, ◌/◌, ◌%◌, List, ◌∷◌, map, drop}
use Rattle.vsm_elements.specs.Store.{Store}
use Rattle.vsm_elements.specs.Chain.{Link}
use Rattle.row_table.specs.declared.item.Item.{Item}
use Rattle.row_table.specs.declared.tree.ItemTree.{ItemTree}
use Rattle.row_table.specs.Trees.{items}
use Rattle.row_table.specs.declared.row.Row.{Row}
use Rattle.row_table.specs.Rows.{word}

-- the place of two numbers
abbrev pub key_of : ℕ → ℕ → ℕ
key_of first second = second * 256 + first

-- the words of a row by those of its item, and the other way round

abbrev pub seven : List ℕ → List ℕ
seven words = word words 0 % 256 ∷ word words 0 / 256 ∷ drop 1 words

abbrev pub six : List ℕ → List ℕ
six words = key_of (word words 0) (word words 1) ∷ drop 2 words

abbrev pub row_in_item : Item → Row
row_in_item n = record { id = n.id; words = seven n.words }

abbrev pub link_in : Item → Link
link_in n = record { id = n.id; words = seven n.words }

-- the rows of a tree, as links
abbrev pub links : Store → ItemTree → List Link
links s q = map link_in (items s q)
