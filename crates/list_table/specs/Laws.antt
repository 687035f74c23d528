-- Laws of tables of lists.
use Rattle.std.specs.Prelude.{◌≡◌, ℕ, true, List, map, ◌++◌}
use Rattle.vsm_elements.specs.Store.{Store, at, among, SameElements, Distinct}
use Rattle.vsm_elements.specs.Chain.{links, IsChain}
use Rattle.vsm_elements.specs.Chain
use Rattle.vsm_elements.specs.declared.chain.Chain.{Chain}
use Rattle.vsm_elements.specs.Ownership.{Owns, Leaves, Apart}
use Rattle.row_table.specs.declared.table.RowTable.{RowTable}
use Rattle.row_table.specs.RowTable
use Rattle.row_table.specs.RowTable.{rows, IsTable}
use Rattle.list_table.specs.declared.row.ListRow.{ListRow}
use Rattle.list_table.specs.declared.stock.Stock.{Stock}
use Rattle.list_table.specs.declared.table.ListTable.{ListTable}
use Rattle.list_table.specs.Stocks.{holdings, IsStock}
use Rattle.list_table.specs.ListTable.{entries, ahead, beyond, owned, owned_besides, IsOpen}
use Rattle.list_table.specs.ListTable

-- a stock became another by calls on its own parts
pub record ChangesTo (s t : Store) (k j : Stock) : Type 0 where
  pub stands : IsStock t j
  pub leaves : Leaves s t (holdings s k) (holdings t j)

-- a table that elements hold owns its elements
abbrev pub TablesOwn : Type 0
TablesOwn = (s : Store) (q : ListTable) → ListTable.IsTable s q → Owns s (owned s q)

-- a table whose elements are unchanged is unchanged
abbrev pub TablesKept : Type 0
TablesKept = (s t : Store) (q : ListTable) → ListTable.IsTable s q
    → ((id : ℕ) → among id (owned s q) ≡ true → at t id ≡ at s id)
    → ListTable.IsTable t q × (entries t q ≡ entries s q) × (owned t q ≡ owned s q)

-- a table that is apart from what a call owns is unchanged
abbrev pub TablesStay : Type 0
TablesStay = (s t : Store) (had has : List ℕ) (q : ListTable) → Leaves s t had has → ListTable.IsTable s q
    → Apart had (owned s q) → ListTable.IsTable t q × (entries t q ≡ entries s q) × (owned t q ≡ owned s q)

-- a call on the stock of a row in hand leaves it in hand, and all else as it was
abbrev pub OpenStays : Type 0
OpenStays = (s t : Store) (q : ListTable) (r : ListRow) (stock : Stock) (words : List ℕ) → IsOpen s q r
    → Leaves s t (holdings s r.stock) (holdings t stock) → IsStock t stock
    → IsOpen t q (record { id = r.id; words = words; stock = stock })
    × (ahead t q r.id ≡ ahead s q r.id) × (beyond t q r.id ≡ beyond s q r.id)
    × (owned_besides t q r.id ≡ owned_besides s q r.id)
    × Leaves s t (owned_besides s q r.id ++ holdings s r.stock) (owned_besides t q r.id ++ holdings t stock)

-- a call on the items of a stock leaves its tables as they were, and the stock is kept with the items that are left
abbrev pub ItemsChange : Type 0
ItemsChange = (s t : Store) (k : Stock) (items : Chain) → IsStock s k
    → Leaves s t (Chain.owned s k.items) (Chain.owned t items) → IsChain t items
    → ChangesTo s t k (record { items = items; used = k.used; extents = k.extents; places = k.places })
    × (rows t k.used ≡ rows s k.used) × (rows t k.extents ≡ rows s k.extents) × (rows t k.places ≡ rows s k.places)

-- so does one on the cells in use, one on the extents, and one on the places
abbrev pub UsedChange : Type 0
UsedChange = (s t : Store) (k : Stock) (used : RowTable) → IsStock s k
    → Leaves s t (RowTable.owned s k.used) (RowTable.owned t used) → IsTable t used
    → ChangesTo s t k (record { items = k.items; used = used; extents = k.extents; places = k.places })
    × (links t k.items ≡ links s k.items) × (rows t k.extents ≡ rows s k.extents) × (rows t k.places ≡ rows s k.places)

abbrev pub ExtentsChange : Type 0
ExtentsChange = (s t : Store) (k : Stock) (extents : RowTable) → IsStock s k
    → Leaves s t (RowTable.owned s k.extents) (RowTable.owned t extents) → IsTable t extents
    → ChangesTo s t k (record { items = k.items; used = k.used; extents = extents; places = k.places })
    × (links t k.items ≡ links s k.items) × (rows t k.used ≡ rows s k.used) × (rows t k.places ≡ rows s k.places)

abbrev pub PlacesChange : Type 0
PlacesChange = (s t : Store) (k : Stock) (places : RowTable) → IsStock s k
    → Leaves s t (RowTable.owned s k.places) (RowTable.owned t places) → IsTable t places
    → ChangesTo s t k (record { items = k.items; used = k.used; extents = k.extents; places = places })
    × (links t k.items ≡ links s k.items) × (rows t k.used ≡ rows s k.used) × (rows t k.extents ≡ rows s k.extents)

-- no two entries have the same id
abbrev pub EntriesDiffer : Type 0
EntriesDiffer = (s : Store) (q : ListTable) → ListTable.IsTable s q → Distinct (map (λ e. e.id) (entries s q))

-- if every id keeps what it had, so does every table
abbrev pub GrowthKeepsTables : Type 0
GrowthKeepsTables = (s t : Store) (q : ListTable) → SameElements s t → ListTable.IsTable s q
    → ListTable.IsTable t q × (entries t q ≡ entries s q) × (owned t q ≡ owned s q)
