-- Two trees that become one.
use Rattle.std.proofs.Common.{◌≡◌, ℕ, true, false, List, [], ◌∷◌, ◌++◌, refl, sym, ap, ◌∙◌, IsSome, subst, append_assoc}
use Rattle.std.proofs.lemmas.List.{append-nil}
use Rattle.vsm_elements.specs.Store.{Store, at, among, Distinct}
use Rattle.vsm_elements.proofs.StoreLemmas.{among_first, among_later}
use Rattle.row_table.specs.declared.item.Item.{Item}
use Rattle.row_table.specs.declared.tree.ItemTree.{ItemTree}
use Rattle.row_table.specs.declared.shape.Node.{Node}
use Rattle.row_table.specs.Trees.{items, owned, IsTree, Opens, Joins, Merges}
use Rattle.row_table.proofs.Lists.{out_parts, out_cons, out_of_cons, distinct_left, distinct_right, distinct_apart, distinct_apart_back}
use Rattle.row_table.proofs.TreeLemmas.{tree_kept, items_kept, owned_kept, no_items, none_owned}

pub merged_first : (s : Store) (a b : ItemTree) → IsTree s a → IsTree s b → a.root ≡ 0 → Merges s s a b b
merged_first s a b ta tb e =
    let o : owned s a ≡ [] = none_owned s a e in
    let r : items s a ≡ [] = no_items s a e in
    record {
      tree = tb;
      are = ap (λ (x : List Item). x ++ items s b) (sym r);
      own = ap (λ (x : List ℕ). x ++ owned s b) (sym o);
      others = λ i out. refl;
      spare = refl;
      as_many = refl;
    }

pub merged_second : (s : Store) (a b : ItemTree) → IsTree s a → IsTree s b → b.root ≡ 0 → Merges s s a b a
merged_second s a b ta tb e =
    let o : owned s b ≡ [] = none_owned s b e in
    let r : items s b ≡ [] = no_items s b e in
    record {
      tree = ta;
      are = sym (ap (λ (x : List Item). items s a ++ x) r ∙ append-nil (items s a));
      own = sym (ap (λ (x : List ℕ). owned s a ++ x) o ∙ append-nil (owned s a));
      others = λ i out. refl;
      spare = refl;
      as_many = refl;
    }

-- the first is above the second
module _ (s : Store) (a b : ItemTree) (n : Node) (o : Opens s a n) (d : Distinct (owned s a ++ owned s b)) where
  abbrev back : List ℕ
  back = owned s n.right ++ owned s b

  all : owned s a ++ owned s b ≡ owned s n.left ++ n.item.id ∷ (owned s n.right ++ owned s b)
  all = ap (λ (x : List ℕ). x ++ owned s b) o.own ∙ append_assoc (owned s n.left) (n.item.id ∷ owned s n.right) (owned s b)

  parts : Distinct (owned s n.left ++ n.item.id ∷ back)
  parts = let P : List ℕ → Type 0 = Distinct in subst P all d

  pub back_distinct : Distinct (owned s n.right ++ owned s b)
  back_distinct = (distinct_right (owned s n.left) (n.item.id ∷ back) parts).1

  module _ (u : Store) (m : ItemTree) (g : Merges s u n.right b m) where
    same : (i : ℕ) → among i (owned s n.left) ≡ true → at u i ≡ at s i
    same i k = g.others i (out_cons i n.item.id back (distinct_apart (owned s n.left) (n.item.id ∷ back) parts i k)).1

    pub left_tree : IsTree u n.left
    left_tree = tree_kept s u n.left o.left same

    pub left_owned : owned u n.left ≡ owned s n.left
    left_owned = owned_kept s u n.left o.left same

    ids : owned s n.left ++ n.item.id ∷ back ≡ owned u n.left ++ n.item.id ∷ owned u m
    ids = ap (λ (x : List ℕ). x ++ n.item.id ∷ back) (sym left_owned) ∙ ap (λ (x : List ℕ). owned u n.left ++ n.item.id ∷ x) (sym g.own)

    pub up_distinct : Distinct (owned u n.left ++ n.item.id ∷ owned u m)
    up_distinct = let P : List ℕ → Type 0 = Distinct in subst P ids parts

    pub up_live : IsSome (at u n.item.id)
    up_live =
        let e : at u n.item.id ≡ at s n.item.id = g.others n.item.id (distinct_right (owned s n.left) (n.item.id ∷ back) parts).0 in
        rw e o.live

    pub merged_above : (t : Store) (r : ItemTree) → Joins u t n.left n.item m r → Merges s t a b r
    merged_above t r j = record {
      tree = j.tree;
      are = j.are
          ∙ ap (λ (x : List Item). x ++ n.item ∷ items u m) (items_kept s u n.left o.left same)
          ∙ ap (λ (x : List Item). items s n.left ++ n.item ∷ x) g.are
          ∙ sym (append_assoc (items s n.left) (n.item ∷ items s n.right) (items s b))
          ∙ ap (λ (x : List Item). x ++ items s b) (sym o.are);
      own = j.own ∙ sym ids ∙ sym all;
      others = λ i out. other i out;
      spare = j.spare ∙ g.spare;
      as_many = j.as_many ∙ g.as_many;
    } where
      other : (i : ℕ) → among i (owned s a ++ owned s b) ≡ false → at t i ≡ at s i
      other i out =
          let p = out_parts i (owned s n.left) (n.item.id ∷ back) (ap (among i) (sym all) ∙ out) in
          let q = out_cons i n.item.id back p.1 in
          j.others i (out_of_cons i n.item.id [] q.0 refl) ∙ g.others i q.1

-- the second is above the first
module _ (s : Store) (a b : ItemTree) (n : Node) (o : Opens s b n) (d : Distinct (owned s a ++ owned s b)) where
  abbrev front : List ℕ
  front = owned s a ++ owned s n.left

  all' : owned s a ++ owned s b ≡ (owned s a ++ owned s n.left) ++ n.item.id ∷ owned s n.right
  all' = ap (λ (x : List ℕ). owned s a ++ x) o.own ∙ sym (append_assoc (owned s a) (owned s n.left) (n.item.id ∷ owned s n.right))

  parts' : Distinct (front ++ n.item.id ∷ owned s n.right)
  parts' = let P : List ℕ → Type 0 = Distinct in subst P all' d

  pub front_distinct : Distinct (owned s a ++ owned s n.left)
  front_distinct = distinct_left front (n.item.id ∷ owned s n.right) parts'

  module _ (u : Store) (m : ItemTree) (g : Merges s u a n.left m) where
    same' : (i : ℕ) → among i (owned s n.right) ≡ true → at u i ≡ at s i
    same' i k = g.others i (distinct_apart_back front (n.item.id ∷ owned s n.right) parts' i (among_later i n.item.id (owned s n.right) k))

    pub right_tree : IsTree u n.right
    right_tree = tree_kept s u n.right o.right same'

    right_owned : owned u n.right ≡ owned s n.right
    right_owned = owned_kept s u n.right o.right same'

    ids' : front ++ n.item.id ∷ owned s n.right ≡ owned u m ++ n.item.id ∷ owned u n.right
    ids' = ap (λ (x : List ℕ). front ++ n.item.id ∷ x) (sym right_owned) ∙ ap (λ (x : List ℕ). x ++ n.item.id ∷ owned u n.right) (sym g.own)

    pub up_distinct' : Distinct (owned u m ++ n.item.id ∷ owned u n.right)
    up_distinct' = let P : List ℕ → Type 0 = Distinct in subst P ids' parts'

    pub up_live' : IsSome (at u n.item.id)
    up_live' =
        let e : at u n.item.id ≡ at s n.item.id = g.others n.item.id (distinct_apart_back front (n.item.id ∷ owned s n.right) parts' n.item.id (among_first n.item.id (owned s n.right))) in
        rw e o.live

    pub merged_below : (t : Store) (r : ItemTree) → Joins u t m n.item n.right r → Merges s t a b r
    merged_below t r j = record {
      tree = j.tree;
      are = j.are
          ∙ ap (λ (x : List Item). items u m ++ n.item ∷ x) (items_kept s u n.right o.right same')
          ∙ ap (λ (x : List Item). x ++ n.item ∷ items s n.right) g.are
          ∙ append_assoc (items s a) (items s n.left) (n.item ∷ items s n.right)
          ∙ ap (λ (x : List Item). items s a ++ x) (sym o.are);
      own = j.own ∙ sym ids' ∙ sym all';
      others = λ i out. other i out;
      spare = j.spare ∙ g.spare;
      as_many = j.as_many ∙ g.as_many;
    } where
      other : (i : ℕ) → among i (owned s a ++ owned s b) ≡ false → at t i ≡ at s i
      other i out =
          let p = out_parts i front (n.item.id ∷ owned s n.right) (ap (among i) (sym all') ∙ out) in
          let q = out_cons i n.item.id (owned s n.right) p.1 in
          j.others i (out_of_cons i n.item.id [] q.0 refl) ∙ g.others i p.0
