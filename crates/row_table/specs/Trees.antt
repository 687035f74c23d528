-- What a contract sees of a tree: its items in order, and its elements in the order of their items.
use Rattle.std.specs.Prelude.{◌≡◌, ℕ, ◌+◌, false, List, [], ◌∷◌, ◌++◌, IsSome, length, drop, slice_index_or}
use Rattle.vsm_elements.specs.Store.{Store, at, among, Distinct, made_and_aside}
use Rattle.vsm_elements.specs.Chain.{element}
use Rattle.row_table.specs.declared.item.Item.{Item}
use Rattle.row_table.specs.declared.tree.ItemTree.{ItemTree}
use Rattle.row_table.specs.declared.shape.Node.{Node}
use Rattle.row_table.specs.Items.{key, AllBelow, AllFrom, Ascends}
use Rattle.row_table.specs.Shape.{grown, limit, items_in, ids_in, IsTreeOf}

-- the items, in order
unfoldable pub items : Store → ItemTree → List Item
items s h = items_in (grown s limit h.root)

-- the ids of the tree's elements, in the order of their items
unfoldable pub owned : Store → ItemTree → List ℕ
owned s h = ids_in (grown s limit h.root)

-- these elements hold the tree
unfoldable pub IsTree : Store → ItemTree → Type 0
IsTree s h = IsTreeOf s h.root (grown s limit h.root)

-- the list whose head is kept in this word
abbrev pub tree_of : ℕ → ItemTree
tree_of root = record { root = root }

-- the words of the item of this id
abbrev pub words_at : Store → ℕ → List ℕ
words_at s id = drop 1 ((element s id).words)

-- and its key
abbrev pub key_at : Store → ℕ → ℕ
key_at s id = slice_index_or (words_at s id) 0 0

-- how many items there are
abbrev pub count : Store → ItemTree → ℕ
count s h = length (owned s h)

-- the head is that of a node, with what is before and after it
pub record Opens (s : Store) (h : ItemTree) (n : Node) : Type 0 where
  pub left : IsTree s n.left
  pub right : IsTree s n.right
  pub are : items s h ≡ items s n.left ++ n.item ∷ items s n.right
  pub own : owned s h ≡ owned s n.left ++ n.item.id ∷ owned s n.right
  pub root : n.item.id ≡ h.root
  pub count : count s h ≡ count s n.left + count s n.right + 1
  pub distinct : Distinct (owned s n.left ++ n.item.id ∷ owned s n.right)
  pub live : IsSome (at s n.item.id)

-- a live element became a node over two trees, and all other elements are as they were
pub record Joins (s t : Store) (left : ItemTree) (item : Item) (right : ItemTree) (h : ItemTree) : Type 0 where
  pub tree : IsTree t h
  pub are : items t h ≡ items s left ++ item ∷ items s right
  pub own : owned t h ≡ owned s left ++ item.id ∷ owned s right
  pub root : h.root ≡ item.id
  pub others : (i : ℕ) → among i (item.id ∷ []) ≡ false → at t i ≡ at s i
  pub spare : t.spare ≡ s.spare
  pub as_many : made_and_aside t ≡ made_and_aside s

-- two trees became one
pub record Merges (s t : Store) (a b h : ItemTree) : Type 0 where
  pub tree : IsTree t h
  pub are : items t h ≡ items s a ++ items s b
  pub own : owned t h ≡ owned s a ++ owned s b
  pub others : (i : ℕ) → among i (owned s a ++ owned s b) ≡ false → at t i ≡ at s i
  pub spare : t.spare ≡ s.spare
  pub as_many : made_and_aside t ≡ made_and_aside s

-- one tree became two: the items below a key, and the rest
pub record Splits (s t : Store) (h : ItemTree) (k : ℕ) (a b : ItemTree) : Type 0 where
  pub first : IsTree t a
  pub second : IsTree t b
  pub are : items s h ≡ items t a ++ items t b
  pub own : owned s h ≡ owned t a ++ owned t b
  pub below : AllBelow k (items t a)
  pub from : AllFrom k (items t b)
  pub others : (i : ℕ) → among i (owned s h) ≡ false → at t i ≡ at s i
  pub spare : t.spare ≡ s.spare
  pub as_many : made_and_aside t ≡ made_and_aside s

-- an item is in a list at its place
pub record IsPut (ns : List Item) (item : Item) (ms : List Item) : Type 0 where
  pub before : List Item
  pub behind : List Item
  pub were : ns ≡ before ++ behind
  pub are : ms ≡ before ++ item ∷ behind
  pub below : AllBelow (key item) before
  pub above : AllFrom (key item + 1) behind

-- a live element became an item
pub record Puts (s t : Store) (h : ItemTree) (item : Item) (r : ItemTree) : Type 0 where
  pub tree : IsTree t r
  pub put : IsPut (items s h) item (items t r)
  pub order : Ascends (items t r)
  pub member : (i : ℕ) → among i (owned t r) ≡ among i (item.id ∷ owned s h)
  pub length : count t r ≡ count s h + 1
  pub others : (i : ℕ) → among i (item.id ∷ owned s h) ≡ false → at t i ≡ at s i
  pub spare : t.spare ≡ s.spare
  pub as_many : made_and_aside t ≡ made_and_aside s

-- an item was removed, and its element is live
pub record Takes (s t : Store) (h : ItemTree) (k : ℕ) (item : Item) (r : ItemTree) : Type 0 where
  pub tree : IsTree t r
  pub taken : IsPut (items t r) item (items s h)
  pub key : key item ≡ k
  pub order : Ascends (items t r)
  pub member : (i : ℕ) → among i (owned s h) ≡ among i (item.id ∷ owned t r)
  pub length : count s h ≡ count t r + 1
  pub out : among item.id (owned t r) ≡ false
  pub live : IsSome (at t item.id)
  pub others : (i : ℕ) → among i (owned s h) ≡ false → at t i ≡ at s i
  pub spare : t.spare ≡ s.spare
  pub as_many : made_and_aside t ≡ made_and_aside s

-- one item has other words, and its element and all others stay
pub record IsSet (ns : List Item) (id : ℕ) (words : List ℕ) (ms : List Item) : Type 0 where
  pub before : List Item
  pub old : Item
  pub behind : List Item
  pub named : old.id ≡ id
  pub were : ns ≡ before ++ old ∷ behind
  pub are : ms ≡ before ++ record { id = id; words = words } ∷ behind

pub record Writes (s t : Store) (h : ItemTree) (id : ℕ) (words : List ℕ) : Type 0 where
  pub tree : IsTree t h
  pub set : IsSet (items s h) id words (items t h)
  pub was : set.old.words ≡ drop 1 ((element s id).words)
  pub own : owned t h ≡ owned s h
  pub others : (i : ℕ) → among i (id ∷ []) ≡ false → at t i ≡ at s i
  pub spare : t.spare ≡ s.spare
  pub as_many : made_and_aside t ≡ made_and_aside s
