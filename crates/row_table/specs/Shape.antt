-- A tree of elements: each node has its item, the list before it and the list after it.
use Rattle.std.specs.Prelude.{◌≡◌, ℕ, zero, suc, ◌≤◌, List, [], ◌∷◌, ◌++◌, length, Some, slice_index_or, drop}
use Rattle.vsm_elements.specs.declared.element.Element.{Element}
use Rattle.vsm_elements.specs.Store.{Store, at, Distinct}
use Rattle.vsm_elements.specs.Chain.{element}
use Rattle.row_table.specs.declared.item.Item.{Item}

pub data Shape : Type 0 where
  leaf : Shape
  node : Shape → ℕ → List ℕ → Shape → Shape

-- the items and the ids of a tree, in order

abbrev pub items_in : Shape → List Item
items_in leaf = []
items_in (node l id w q) = items_in l ++ record { id = id; words = w } ∷ items_in q

abbrev pub ids_in : Shape → List ℕ
ids_in leaf = []
ids_in (node l id w q) = ids_in l ++ id ∷ ids_in q

abbrev pub size : Shape → ℕ
size t = length (ids_in t)

abbrev pub top : Shape → ℕ
top leaf = 0
top (node l id w q) = id

-- what the element of a node contains
abbrev pub written : Shape → List ℕ → Shape → Element
written l w q = record { next = top l; words = top q ∷ w }

abbrev pub Held : Store → Shape → Type 0
Held s leaf = Unit {0}
Held s (node l id w q) = Held s l × (at s id ≡ Some (written l w q)) × Held s q

-- what is read from an id on, at most this many levels deep
abbrev pub grown : Store → ℕ → ℕ → Shape
grown s zero id = leaf
grown s (suc n) zero = leaf
grown s (suc n) (suc i) = node (grown s n ((element s (suc i)).next)) (suc i) (drop 1 ((element s (suc i)).words))
    (grown s n (slice_index_or ((element s (suc i)).words) 0 0))

-- no tree has more elements than can exist
unfoldable pub limit : ℕ
limit = 4294967040

-- the tree from this id on is exactly this one
pub record IsTreeOf (s : Store) (id : ℕ) (t : Shape) : Type 0 where
  pub root : id ≡ top t
  pub held : Held s t
  pub distinct : Distinct (ids_in t)
  pub small : size t ≤ limit
