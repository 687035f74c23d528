-- The first item from a key on, by its id.
use Rattle.std.proofs.Common.{◌≡◌, ◌≢◌, ℕ, ◌<◌, ◌≤◌, Bool, true, false, List, [], ◌∷◌, drop, Option, Some, None, IsSome, refl, sym, ap, ◌∙◌, arith, subst}
use Rattle.std.specs.Prelude.{if◌then◌else◌, map, nat_le}
use Rattle.vsm_elements.specs.Store.{Store, at, among}
use Rattle.vsm_elements.specs.Chain.{element}
use Rattle.vsm_elements.proofs.StoreLemmas.{among_first, among_later}
use Rattle.row_table.specs.declared.item.Item.{Item}
use Rattle.row_table.specs.declared.tree.ItemTree.{ItemTree}
use Rattle.row_table.specs.declared.shape.Node.{Node}
use Rattle.row_table.specs.Items.{key, item_from, id_or, Ascends}
use Rattle.row_table.specs.Trees.{items, owned, IsTree, Opens}
use Rattle.row_table.proofs.ShapeLemmas.{id_of, positive}
use Rattle.row_table.proofs.TreeLemmas.{no_items, owned_ids}
use Rattle.row_table.proofs.FindLemmas.{from_right, from_left_some, from_left_none}
use Rattle.row_table.proofs.ItemSetLemmas.{AllStored, stored}

pub none_or : (s : Store) (h : ItemTree) (k best : ℕ) → h.root ≡ 0 → best ≡ id_or best (item_from k (items s h))
none_or s h k best e = sym (ap (λ (ns : List Item). id_or best (item_from k ns)) (no_items s h e))

module _ (s : Store) (h : ItemTree) (n : Node) (o : Opens s h n) (order : Ascends (items s h)) (k best : ℕ) where
  pub or_right : key n.item < k → (r : ℕ) → r ≡ id_or best (item_from k (items s n.right)) → r ≡ id_or best (item_from k (items s h))
  or_right low r e = e ∙ ap (id_or best) (from_right s h n o order k low (item_from k (items s n.right)) refl)

  pub or_left : k ≤ key n.item → (r : ℕ) → r ≡ id_or n.item.id (item_from k (items s n.left)) → r ≡ id_or best (item_from k (items s h))
  or_left high r e = go (item_from k (items s n.left)) refl where
    go : (x : Option Item) → x ≡ item_from k (items s n.left) → r ≡ id_or best (item_from k (items s h))
    go None f = e ∙ ap (id_or n.item.id) (sym f) ∙ ap (id_or best) (from_left_none s h n o order k high f)
    go (Some x) f = e ∙ ap (id_or n.item.id) (sym f) ∙ ap (id_or best) (from_left_some s h n o order k x f)

-- what is found is stored

abbrev pub IsHeld : Store → List ℕ → Item → Type 0
IsHeld s ids n = (n.words ≡ drop 1 ((element s n.id).words)) × IsSome (at s n.id) × (among n.id ids ≡ true)

from_step : (s : Store) (m n : Item) (z : Bool) (o : Option Item) (ids : List ℕ) → (m.words ≡ drop 1 ((element s m.id).words)) × IsSome (at s m.id) → (o ≡ Some n → IsHeld s ids n)
    → (if z then Some m else o) ≡ Some n → IsHeld s (m.id ∷ ids) n
from_step s m n true o ids here rest e =
    let P : Item → Type 0 = IsHeld s (m.id ∷ ids) in
    subst P (inside e) (here.0, here.1, among_first m.id ids) where
      inside : Some m ≡ Some n → m ≡ n
      inside e = cc
from_step s m n false o ids here rest e = let r = rest e in (r.0, r.1, among_later n.id m.id ids r.2)

from_held : (s : Store) (k : ℕ) (ns : List Item) → AllStored s ns → (n : Item) → item_from k ns ≡ Some n → IsHeld s (map id_of ns) n
from_held s k [] h n e = absurd (no e) where
  no : None ≡ Some n → ⊥
  no e = cc
from_held s k (m ∷ ns) h n e = from_step s m n (nat_le k (key m)) (item_from k ns) (map id_of ns) h.0 (from_held s k ns h.1 n) e

module _ (s : Store) (h : ItemTree) (tree : IsTree s h) (k id : ℕ) (is : id ≡ id_or 0 (item_from k (items s h))) where
  pub from_0 : id ≡ 0 → None ≡ item_from k (items s h)
  from_0 e = go (item_from k (items s h)) refl where
    go : (x : Option Item) → item_from k (items s h) ≡ x → None ≡ item_from k (items s h)
    go None f = sym f
    go (Some n) f =
        let q = from_held s k (items s h) (stored s h tree) n f in
        absurd (omega (arith, positive s n.id q.1, is, ap (id_or 0) f, e))

  -- the item of the id that was found
  pub record Found : Type 0 where
    pub item : Item
    pub there : item_from k (items s h) ≡ Some item
    pub named : item.id ≡ id
    pub words : item.words ≡ drop 1 ((element s id).words)
    pub has : among id (owned s h) ≡ true

  pub from_some : id ≢ 0 → Found
  from_some ne = go (item_from k (items s h)) refl where
    go : (x : Option Item) → item_from k (items s h) ≡ x → Found
    go None f = absurd (ne (is ∙ ap (id_or 0) f))
    go (Some n) f =
        let q = from_held s k (items s h) (stored s h tree) n f in
        let same : n.id ≡ id = sym (is ∙ ap (id_or 0) f) in
        record {
          item = n;
          there = f;
          named = same;
          words = q.0 ∙ ap (λ (i : ℕ). drop 1 ((element s i).words)) same;
          has = ap (among id) (owned_ids s h) ∙ ap (λ (i : ℕ). among i (map id_of (items s h))) (sym same) ∙ q.2;
        }

  pub from_got : (ne : id ≢ 0) (r : Item) → r.id ≡ id → r.words ≡ drop 1 ((element s id).words) → Some r ≡ item_from k (items s h)
  from_got ne r a b =
      let f : Found = from_some ne in
      let e : r ≡ f.item = ap (λ (i : ℕ). record { id = i; words = r.words }) (a ∙ sym f.named) ∙ ap (λ (w : List ℕ). record { id = f.item.id; words = w }) (b ∙ sym f.words) in
      ap Some e ∙ sym f.there
