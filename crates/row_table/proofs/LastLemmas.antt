-- The last item, by its id.
use Rattle.std.proofs.Common.{◌≡◌, ◌≢◌, ℕ, true, List, [], ◌∷◌, ◌++◌, drop, Option, Some, None, refl, sym, ap, ◌∙◌, arith, IsSome, subst}
use Rattle.std.specs.Prelude.{map}
use Rattle.vsm_elements.specs.Store.{Store, at, among}
use Rattle.vsm_elements.specs.Chain.{element}
use Rattle.vsm_elements.proofs.StoreLemmas.{among_first, among_later}
use Rattle.row_table.specs.declared.item.Item.{Item}
use Rattle.row_table.specs.declared.tree.ItemTree.{ItemTree}
use Rattle.row_table.specs.declared.shape.Node.{Node}
use Rattle.row_table.specs.Items.{last_item, item_or, id_or}
use Rattle.row_table.specs.Trees.{items, owned, IsTree, Opens}
use Rattle.row_table.proofs.ShapeLemmas.{id_of, positive}
use Rattle.row_table.proofs.TreeLemmas.{no_items, owned_ids}
use Rattle.row_table.proofs.ItemSetLemmas.{AllStored, stored}
use Rattle.row_table.proofs.FromLemmas.{IsHeld}

pub none_last : (s : Store) (h : ItemTree) (best : ℕ) → h.root ≡ 0 → best ≡ id_or best (last_item (items s h))
none_last s h best e = sym (ap (λ (ns : List Item). id_or best (last_item ns)) (no_items s h e))

last_behind : (xs : List Item) (y : Item) (ys : List Item) → last_item (xs ++ y ∷ ys) ≡ Some (item_or y (last_item ys))
last_behind [] y ys = refl
last_behind (x ∷ xs) y ys = ap (λ (o : Option Item). Some (item_or x o)) (last_behind xs y ys)

or_id : (n : Item) (o : Option Item) → id_or n.id o ≡ (item_or n o).id
or_id n None = refl
or_id n (Some m) = refl

pub last_right : (s : Store) (h : ItemTree) (n : Node) → Opens s h n → (best r : ℕ) → r ≡ id_or n.item.id (last_item (items s n.right)) → r ≡ id_or best (last_item (items s h))
last_right s h n o best r e = e ∙ or_id n.item (last_item (items s n.right)) ∙ sym (ap (id_or best) (ap last_item o.are ∙ last_behind (items s n.left) n.item (items s n.right)))

-- what is found is stored

last_held : (s : Store) (m n : Item) (o : Option Item) (ids : List ℕ) → (m.words ≡ drop 1 ((element s m.id).words)) × IsSome (at s m.id) → (o ≡ Some n → IsHeld s ids n) → item_or m o ≡ n → IsHeld s (m.id ∷ ids) n
last_held s m n None ids here rest e = let P : Item → Type 0 = IsHeld s (m.id ∷ ids) in subst P e (here.0, here.1, among_first m.id ids)
last_held s m n (Some x) ids here rest e = let r = rest (ap Some e) in (r.0, r.1, among_later n.id m.id ids r.2)

is_held : (s : Store) (ns : List Item) → AllStored s ns → (n : Item) → last_item ns ≡ Some n → IsHeld s (map id_of ns) n
is_held s [] h n e = absurd (no e) where
  no : None ≡ Some n → ⊥
  no e = cc
is_held s (m ∷ ns) h n e = last_held s m n (last_item ns) (map id_of ns) h.0 (is_held s ns h.1 n) (inside e) where
  inside : Some (item_or m (last_item ns)) ≡ Some n → item_or m (last_item ns) ≡ n
  inside e = cc

module _ (s : Store) (h : ItemTree) (tree : IsTree s h) (id : ℕ) (is : id ≡ id_or 0 (last_item (items s h))) where
  pub last_0 : id ≡ 0 → None ≡ last_item (items s h)
  last_0 e = go (last_item (items s h)) refl where
    go : (x : Option Item) → last_item (items s h) ≡ x → None ≡ last_item (items s h)
    go None f = sym f
    go (Some n) f =
        let q = is_held s (items s h) (stored s h tree) n f in
        absurd (omega (arith, positive s n.id q.1, is, ap (id_or 0) f, e))

  pub record Last : Type 0 where
    pub item : Item
    pub there : last_item (items s h) ≡ Some item
    pub named : item.id ≡ id
    pub words : item.words ≡ drop 1 ((element s id).words)
    pub has : among id (owned s h) ≡ true

  pub last_some : id ≢ 0 → Last
  last_some ne = go (last_item (items s h)) refl where
    go : (x : Option Item) → last_item (items s h) ≡ x → Last
    go None f = absurd (ne (is ∙ ap (id_or 0) f))
    go (Some n) f =
        let q = is_held s (items s h) (stored s h tree) n f in
        let same : n.id ≡ id = sym (is ∙ ap (id_or 0) f) in
        record {
          item = n;
          there = f;
          named = same;
          words = q.0 ∙ ap (λ (i : ℕ). drop 1 ((element s i).words)) same;
          has = ap (among id) (owned_ids s h) ∙ ap (λ (i : ℕ). among i (map id_of (items s h))) (sym same) ∙ q.2;
        }

  pub last_got : (ne : id ≢ 0) (r : Item) → r.id ≡ id → r.words ≡ drop 1 ((element s id).words) → Some r ≡ last_item (items s h)
  last_got ne r a b =
      let f : Last = last_some ne in
      let e : r ≡ f.item = ap (λ (i : ℕ). record { id = i; words = r.words }) (a ∙ sym f.named) ∙ ap (λ (w : List ℕ). record { id = f.item.id; words = w }) (b ∙ sym f.words) in
      ap Some e ∙ sym f.there
