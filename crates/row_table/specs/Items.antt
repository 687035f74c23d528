-- Items in a list: by their keys, which ascend.
use Rattle.std.specs.Prelude.{ℕ, ◌+◌, ◌<◌, ◌≤◌, ◌==◌, nat_le, if◌then◌else◌, List, [], ◌∷◌, Option, Some, None}
use Rattle.std.specs.Prelude.{slice_index_or}
use Rattle.row_table.specs.declared.item.Item.{Item}

-- an item's first word
abbrev pub key : Item → ℕ
key n = slice_index_or n.words 0 0

-- each of them has a key below this one
abbrev pub AllBelow : ℕ → List Item → Type 0
AllBelow k [] = Unit {0}
AllBelow k (n ∷ ns) = (key n < k) × AllBelow k ns

-- each of them has this key or one above it
abbrev pub AllFrom : ℕ → List Item → Type 0
AllFrom k [] = Unit {0}
AllFrom k (n ∷ ns) = (k ≤ key n) × AllFrom k ns

-- the keys ascend
abbrev pub Ascends : List Item → Type 0
Ascends [] = Unit {0}
Ascends (n ∷ ns) = AllFrom (key n + 1) ns × Ascends ns

-- the item of this key
abbrev pub item_in : ℕ → List Item → Option Item
item_in k [] = None
item_in k (n ∷ ns) = if key n == k then Some n else item_in k ns

-- the first item of this key or of one above it
abbrev pub item_from : ℕ → List Item → Option Item
item_from k [] = None
item_from k (n ∷ ns) = if nat_le k (key n) then Some n else item_from k ns

-- the item of this id
abbrev pub item_named : ℕ → List Item → Option Item
item_named i [] = None
item_named i (n ∷ ns) = if i == n.id then Some n else item_named i ns

-- the id of an item, or else this one
abbrev pub id_or : ℕ → Option Item → ℕ
id_or best None = best
id_or best (Some n) = n.id

-- the item, or else this one
abbrev pub item_or : Item → Option Item → Item
item_or n None = n
item_or n (Some m) = m

-- the last item
abbrev pub last_item : List Item → Option Item
last_item [] = None
last_item (n ∷ ns) = Some (item_or n (last_item ns))
