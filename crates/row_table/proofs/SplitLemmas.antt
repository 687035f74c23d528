-- One tree that becomes two.
use Rattle.std.proofs.Common.{◌≡◌, ℕ, ◌+◌, ◌<◌, ◌≤◌, true, false, List, [], ◌∷◌, ◌++◌, refl, sym, ap, ◌∙◌, arith, IsSome, subst, append_assoc}
use Rattle.vsm_elements.specs.Store.{Store, at, among, Distinct}
use Rattle.vsm_elements.proofs.StoreLemmas.{among_first, among_later}
use Rattle.row_table.specs.declared.item.Item.{Item}
use Rattle.row_table.specs.declared.tree.ItemTree.{ItemTree}
use Rattle.row_table.specs.declared.shape.Node.{Node}
use Rattle.row_table.specs.Trees.{items, owned, IsTree, Opens, Joins, Splits}
use Rattle.row_table.proofs.Lists.{out_parts, out_cons, out_of_cons, distinct_left, distinct_right, distinct_apart, distinct_apart_back}
use Rattle.row_table.specs.Items.{key, AllBelow, AllFrom, Ascends}
use Rattle.row_table.proofs.OrderLemmas.{below_more, from_less, below_join, from_join, ascends_left, ascends_right, below_middle}
use Rattle.row_table.proofs.TreeLemmas.{tree_kept, items_kept, owned_kept, no_items, none_owned}

pub split_none : (s : Store) (h : ItemTree) (k : ℕ) → IsTree s h → h.root ≡ 0 → Splits s s h k h h
split_none s h k t e =
    let o : owned s h ≡ [] = none_owned s h e in
    let r : items s h ≡ [] = no_items s h e in
    let P : List Item → Type 0 = AllBelow k in
    let Q : List Item → Type 0 = AllFrom k in
    record {
      below = subst P (sym r) tt;
      from = subst Q (sym r) tt;
      first = t;
      second = t;
      are = r ∙ sym (ap (λ (x : List Item). x ++ x) r);
      own = o ∙ sym (ap (λ (x : List ℕ). x ++ x) o);
      others = λ i out. refl;
      spare = refl;
      as_many = refl;
    }

module _ (s : Store) (h : ItemTree) (n : Node) (o : Opens s h n) (order : Ascends (items s h)) where
  whole : Ascends (items s n.left ++ n.item ∷ items s n.right)
  whole = let P : List Item → Type 0 = Ascends in subst P o.are order

  pub left_order : Ascends (items s n.left)
  left_order = ascends_left (items s n.left) (n.item ∷ items s n.right) whole

  pub right_order : Ascends (items s n.right)
  right_order = (ascends_right (items s n.left) (n.item ∷ items s n.right) whole).1

  right_from : AllFrom (key n.item + 1) (items s n.right)
  right_from = (ascends_right (items s n.left) (n.item ∷ items s n.right) whole).0

  left_below : AllBelow (key n.item) (items s n.left)
  left_below = below_middle (items s n.left) n.item (items s n.right) whole

  -- the place is in the left part
  module _ (k : ℕ) (high : k ≤ key n.item) (u : Store) (a m : ItemTree) (g : Splits s u n.left k a m) where
    same : (i : ℕ) → among i (owned s n.right) ≡ true → at u i ≡ at s i
    same i q = g.others i (distinct_apart_back (owned s n.left) (n.item.id ∷ owned s n.right) o.distinct i (among_later i n.item.id (owned s n.right) q))

    pub right_tree : IsTree u n.right
    right_tree = tree_kept s u n.right o.right same

    right_owned : owned u n.right ≡ owned s n.right
    right_owned = owned_kept s u n.right o.right same

    ids : owned s n.left ++ n.item.id ∷ owned s n.right ≡ owned u a ++ (owned u m ++ n.item.id ∷ owned u n.right)
    ids = ap (λ (x : List ℕ). x ++ n.item.id ∷ owned s n.right) g.own ∙ ap (λ (x : List ℕ). (owned u a ++ owned u m) ++ n.item.id ∷ x) (sym right_owned) ∙ append_assoc (owned u a) (owned u m) (n.item.id ∷ owned u n.right)

    parts : Distinct (owned u a ++ (owned u m ++ n.item.id ∷ owned u n.right))
    parts = let P : List ℕ → Type 0 = Distinct in subst P ids o.distinct

    pub up_distinct : Distinct (owned u m ++ n.item.id ∷ owned u n.right)
    up_distinct = distinct_right (owned u a) (owned u m ++ n.item.id ∷ owned u n.right) parts

    pub up_live : IsSome (at u n.item.id)
    up_live =
        let e : at u n.item.id ≡ at s n.item.id = g.others n.item.id (distinct_apart_back (owned s n.left) (n.item.id ∷ owned s n.right) o.distinct n.item.id (among_first n.item.id (owned s n.right))) in
        rw e o.live

    pub split_left : (t : Store) (b : ItemTree) → Joins u t m n.item n.right b → Splits s t h k a b
    split_left t b j = let P : List Item → Type 0 = AllBelow k in let Q : List Item → Type 0 = AllFrom k in record {
      below = subst P (sym (items_kept u t a g.first kept)) g.below;
      from = subst Q (sym (j.are ∙ ap (λ (x : List Item). items u m ++ n.item ∷ x) (items_kept s u n.right o.right same)))
          (from_join k (items u m) (n.item ∷ items s n.right) g.from (high, from_less (key n.item + 1) k (items s n.right) (omega (arith, high)) right_from));
      first = tree_kept u t a g.first kept;
      second = j.tree;
      are = o.are
          ∙ ap (λ (x : List Item). x ++ n.item ∷ items s n.right) g.are
          ∙ ap (λ (x : List Item). (items u a ++ items u m) ++ n.item ∷ x) (sym (items_kept s u n.right o.right same))
          ∙ append_assoc (items u a) (items u m) (n.item ∷ items u n.right)
          ∙ ap (λ (x : List Item). items u a ++ x) (sym j.are)
          ∙ ap (λ (x : List Item). x ++ items t b) (sym (items_kept u t a g.first kept));
      own = o.own ∙ ids ∙ ap (λ (x : List ℕ). owned u a ++ x) (sym j.own) ∙ ap (λ (x : List ℕ). x ++ owned t b) (sym (owned_kept u t a g.first kept));
      others = λ i out. other i out;
      spare = j.spare ∙ g.spare;
      as_many = j.as_many ∙ g.as_many;
    } where
      kept : (i : ℕ) → among i (owned u a) ≡ true → at t i ≡ at u i
      kept i q = j.others i (out_of_cons i n.item.id [] (out_cons i n.item.id (owned u n.right) (out_parts i (owned u m) (n.item.id ∷ owned u n.right) (distinct_apart (owned u a) (owned u m ++ n.item.id ∷ owned u n.right) parts i q)).1).0 refl)

      other : (i : ℕ) → among i (owned s h) ≡ false → at t i ≡ at s i
      other i out =
          let p = out_parts i (owned s n.left) (n.item.id ∷ owned s n.right) (ap (among i) (sym o.own) ∙ out) in
          j.others i (out_of_cons i n.item.id [] (out_cons i n.item.id (owned s n.right) p.1).0 refl) ∙ g.others i p.0

  -- the place is in the right part
  module _ (k : ℕ) (low : key n.item < k) (u : Store) (m b : ItemTree) (g : Splits s u n.right k m b) where
    same' : (i : ℕ) → among i (owned s n.left) ≡ true → at u i ≡ at s i
    same' i q = g.others i (out_cons i n.item.id (owned s n.right) (distinct_apart (owned s n.left) (n.item.id ∷ owned s n.right) o.distinct i q)).1

    pub left_tree : IsTree u n.left
    left_tree = tree_kept s u n.left o.left same'

    left_owned : owned u n.left ≡ owned s n.left
    left_owned = owned_kept s u n.left o.left same'

    ids' : owned s n.left ++ n.item.id ∷ owned s n.right ≡ (owned u n.left ++ n.item.id ∷ owned u m) ++ owned u b
    ids' = ap (λ (x : List ℕ). x ++ n.item.id ∷ owned s n.right) (sym left_owned) ∙ ap (λ (x : List ℕ). owned u n.left ++ n.item.id ∷ x) g.own ∙ sym (append_assoc (owned u n.left) (n.item.id ∷ owned u m) (owned u b))

    parts' : Distinct ((owned u n.left ++ n.item.id ∷ owned u m) ++ owned u b)
    parts' = let P : List ℕ → Type 0 = Distinct in subst P ids' o.distinct

    pub up_distinct' : Distinct (owned u n.left ++ n.item.id ∷ owned u m)
    up_distinct' = distinct_left (owned u n.left ++ n.item.id ∷ owned u m) (owned u b) parts'

    pub up_live' : IsSome (at u n.item.id)
    up_live' =
        let e : at u n.item.id ≡ at s n.item.id = g.others n.item.id (distinct_right (owned s n.left) (n.item.id ∷ owned s n.right) o.distinct).0 in
        rw e o.live

    pub split_right : (t : Store) (a : ItemTree) → Joins u t n.left n.item m a → Splits s t h k a b
    split_right t a j = let P : List Item → Type 0 = AllBelow k in let Q : List Item → Type 0 = AllFrom k in record {
      below = subst P (sym (j.are ∙ ap (λ (x : List Item). x ++ n.item ∷ items u m) (items_kept s u n.left o.left same')))
          (below_join k (items s n.left) (n.item ∷ items u m) (below_more (key n.item) k (items s n.left) (omega (arith, low)) left_below) (low, g.below));
      from = subst Q (sym (items_kept u t b g.second kept)) g.from;
      first = j.tree;
      second = tree_kept u t b g.second kept;
      are = o.are
          ∙ ap (λ (x : List Item). x ++ n.item ∷ items s n.right) (sym (items_kept s u n.left o.left same'))
          ∙ ap (λ (x : List Item). items u n.left ++ n.item ∷ x) g.are
          ∙ sym (append_assoc (items u n.left) (n.item ∷ items u m) (items u b))
          ∙ ap (λ (x : List Item). x ++ items u b) (sym j.are)
          ∙ ap (λ (x : List Item). items t a ++ x) (sym (items_kept u t b g.second kept));
      own = o.own ∙ ids' ∙ ap (λ (x : List ℕ). x ++ owned u b) (sym j.own) ∙ ap (λ (x : List ℕ). owned t a ++ x) (sym (owned_kept u t b g.second kept));
      others = λ i out. other i out;
      spare = j.spare ∙ g.spare;
      as_many = j.as_many ∙ g.as_many;
    } where
      kept : (i : ℕ) → among i (owned u b) ≡ true → at t i ≡ at u i
      kept i q = j.others i (out_of_cons i n.item.id [] (out_cons i n.item.id (owned u m) (out_parts i (owned u n.left) (n.item.id ∷ owned u m) (distinct_apart_back (owned u n.left ++ n.item.id ∷ owned u m) (owned u b) parts' i q)).1).0 refl)

      other : (i : ℕ) → among i (owned s h) ≡ false → at t i ≡ at s i
      other i out =
          let p = out_parts i (owned s n.left) (n.item.id ∷ owned s n.right) (ap (among i) (sym o.own) ∙ out) in
          let q = out_cons i n.item.id (owned s n.right) p.1 in
          j.others i (out_of_cons i n.item.id [] q.0 refl) ∙ g.others i q.1
