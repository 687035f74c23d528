-- What a row has in addition to its words: a chain of items and three tables, each in elements of its own.
use Rattle.std.specs.Prelude.{◌≡◌, ℕ, List, ◌++◌, map}
use Rattle.vsm_elements.specs.Store.{Store}
use Rattle.vsm_elements.specs.Chain.{Link, links, IsChain}
use Rattle.vsm_elements.specs.Chain
use Rattle.vsm_elements.specs.Ownership.{Apart}
use Rattle.row_table.specs.declared.row.Row.{Row}
use Rattle.row_table.specs.RowTable
use Rattle.row_table.specs.RowTable.{rows, IsTable}
use Rattle.list_table.specs.declared.stock.Stock.{Stock}
use Rattle.list_table.specs.Entries.{Entry}

-- the words of each link
abbrev pub items_of : List Link → List (List ℕ)
items_of ns = map (λ n. n.words) ns

-- the words of each row of a table, in their order
abbrev pub rows_of : List Row → List (List ℕ)
rows_of rs = map (λ r. r.words) rs

-- what a stock contains: its items, and the rows of its three tables
pub record Contents : Type 0 where
  pub items : List (List ℕ)
  pub used : List (List ℕ)
  pub extents : List (List ℕ)
  pub places : List (List ℕ)

abbrev pub contents : Store → Stock → Contents
contents s k = record {
  items = items_of (links s k.items);
  used = rows_of (rows s k.used);
  extents = rows_of (rows s k.extents);
  places = rows_of (rows s k.places);
}

-- the entry of an id and words, with what its stock contains
abbrev pub entry_with : ℕ → List ℕ → Contents → Entry
entry_with id words c =
    record { id = id; words = words; items = c.items; used = c.used; extents = c.extents; places = c.places }

-- the ids of its elements, except those of the places
abbrev pub front : Store → Stock → List ℕ
front s k = (Chain.owned s k.items ++ RowTable.owned s k.used) ++ RowTable.owned s k.extents

-- the ids of its elements
abbrev pub holdings : Store → Stock → List ℕ
holdings s k = front s k ++ RowTable.owned s k.places

-- its parts are kept, each in elements of its own
pub record IsStock (s : Store) (k : Stock) : Type 0 where
  pub items : IsChain s k.items
  pub used : IsTable s k.used
  pub extents : IsTable s k.extents
  pub places : IsTable s k.places
  pub aside : Apart (Chain.owned s k.items) (RowTable.owned s k.used)
  pub apart : Apart (Chain.owned s k.items ++ RowTable.owned s k.used) (RowTable.owned s k.extents)
  pub beside : Apart (front s k) (RowTable.owned s k.places)

-- it is unchanged
pub record SameStock (s t : Store) (k : Stock) : Type 0 where
  pub stands : IsStock t k
  pub is : contents t k ≡ contents s k
  pub own : holdings t k ≡ holdings s k
