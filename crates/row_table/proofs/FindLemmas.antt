-- What is under a key, by the node at the top.
use Rattle.std.proofs.Common.{◌≡◌, ℕ, ◌+◌, ◌<◌, ◌≤◌, inl, inr, List, ◌∷◌, ◌++◌, Option, Some, None, sym, ap, ◌∙◌, arith, subst}
use Rattle.std.specs.Prelude.{if◌then◌else◌, Bool}
use Rattle.std.proofs.lemmas.Bool.Decides.{leb_tells}
use Rattle.vsm_elements.specs.Store.{Store}
use Rattle.row_table.specs.declared.item.Item.{Item}
use Rattle.row_table.specs.declared.tree.ItemTree.{ItemTree}
use Rattle.row_table.specs.declared.shape.Node.{Node}
use Rattle.row_table.specs.Trees.{items, Opens}
use Rattle.row_table.specs.Items.{key, AllBelow, AllFrom, Ascends, item_in, item_from}
use Rattle.row_table.proofs.OrderLemmas.{below_more, from_less, below_middle, ascends_left, ascends_right, in_none_below, in_behind, in_here, in_later, in_front, from_behind, from_here, from_some, from_none}
use Rattle.row_table.proofs.TreeLemmas.{no_items}

pub none_in : (s : Store) (h : ItemTree) (k : ℕ) → h.root ≡ 0 → None ≡ item_in k (items s h)
none_in s h k e = sym (ap (item_in k) (no_items s h e))

pub none_from : (s : Store) (h : ItemTree) (k : ℕ) → h.root ≡ 0 → None ≡ item_from k (items s h)
none_from s h k e = sym (ap (item_from k) (no_items s h e))

from_later : (k : ℕ) (x : Item) (xs : List Item) → key x < k → item_from k (x ∷ xs) ≡ item_from k xs
from_later k x xs low = elim (leb_tells k (key x)) [
  | inl p ↦ absurd (omega (arith, p.1, low))
  | inr p ↦ ap (λ (b : Bool). if b then Some x else item_from k xs) p.0
]

module _ (s : Store) (h : ItemTree) (n : Node) (o : Opens s h n) (order : Ascends (items s h)) (k : ℕ) where
  whole : Ascends (items s n.left ++ n.item ∷ items s n.right)
  whole = let P : List Item → Type 0 = Ascends in subst P o.are order

  pub left_order : Ascends (items s n.left)
  left_order = ascends_left (items s n.left) (n.item ∷ items s n.right) whole

  pub right_order : Ascends (items s n.right)
  right_order = (ascends_right (items s n.left) (n.item ∷ items s n.right) whole).1

  right_from : AllFrom (key n.item + 1) (items s n.right)
  right_from = (ascends_right (items s n.left) (n.item ∷ items s n.right) whole).0

  left_below : AllBelow (key n.item) (items s n.left)
  left_below = below_middle (items s n.left) n.item (items s n.right) whole

  pub in_left : k < key n.item → (r : Option Item) → r ≡ item_in k (items s n.left) → r ≡ item_in k (items s h)
  in_left low r e = e ∙ sym (ap (item_in k) o.are ∙ in_front k (key n.item) (items s n.left) (n.item ∷ items s n.right) low (omega arith, from_less (key n.item + 1) (key n.item) (items s n.right) (omega arith) right_from))

  pub in_middle : k ≡ key n.item → Some n.item ≡ item_in k (items s h)
  in_middle e =
      sym (ap (item_in k) o.are
      ∙ in_behind k (items s n.left) (n.item ∷ items s n.right) (in_none_below k (items s n.left) (below_more (key n.item) k (items s n.left) (omega (arith, e)) left_below))
      ∙ in_here k n.item (items s n.right) (sym e))

  pub in_right : key n.item < k → (r : Option Item) → r ≡ item_in k (items s n.right) → r ≡ item_in k (items s h)
  in_right low r e =
      e ∙ sym (ap (item_in k) o.are
      ∙ in_behind k (items s n.left) (n.item ∷ items s n.right) (in_none_below k (items s n.left) (below_more (key n.item) k (items s n.left) (omega (arith, low)) left_below))
      ∙ in_later k n.item (items s n.right) low)

  pub from_right : key n.item < k → (r : Option Item) → r ≡ item_from k (items s n.right) → r ≡ item_from k (items s h)
  from_right low r e =
      e ∙ sym (ap (item_from k) o.are
      ∙ from_behind k (items s n.left) (n.item ∷ items s n.right) (below_more (key n.item) k (items s n.left) (omega (arith, low)) left_below)
      ∙ from_later k n.item (items s n.right) low)

  pub from_left_some : (x : Item) → Some x ≡ item_from k (items s n.left) → Some x ≡ item_from k (items s h)
  from_left_some x e = sym (ap (item_from k) o.are ∙ from_some k (items s n.left) (n.item ∷ items s n.right) x (sym e))

  pub from_left_none : k ≤ key n.item → None ≡ item_from k (items s n.left) → Some n.item ≡ item_from k (items s h)
  from_left_none le e = sym (ap (item_from k) o.are ∙ from_none k (items s n.left) (n.item ∷ items s n.right) (sym e) ∙ from_here k n.item (items s n.right) le)
