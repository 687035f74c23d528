-- An item that is inserted, and one that is removed.
use Rattle.std.proofs.Common.{◌≡◌, ℕ, ◌+◌, ◌<◌, ◌==◌, Bool, true, false, ◌||◌, inl, inr, List, [], ◌∷◌, ◌++◌, length, Option, Some, None, refl, sym, ap, ◌∙◌, arith, IsSome, subst, append_assoc, length-append}
use Rattle.std.specs.Prelude.{map}
use Rattle.std.proofs.lemmas.Bool.Decides.{eqb_tells}
use Rattle.vsm_elements.specs.Store.{Store, at, among, Distinct}
use Rattle.vsm_elements.proofs.StoreLemmas.{among_first}
use Rattle.vsm_elements.proofs.ChainLemmas.{among-append, not_both, distinct_insert, distinct_remove}
use Rattle.row_table.specs.declared.item.Item.{Item}
use Rattle.row_table.specs.declared.tree.ItemTree.{ItemTree}
use Rattle.row_table.specs.declared.shape.Node.{Node}
use Rattle.row_table.specs.Items.{key, item_in, AllBelow, AllFrom, Ascends}
use Rattle.row_table.specs.Trees.{items, owned, IsTree, Opens, Joins, Merges, Splits, Puts, Takes}
use Rattle.row_table.proofs.Lists.{out_parts, out_of, out_cons, out_of_cons, distinct_left, distinct_apart, distinct_apart_back}
use Rattle.row_table.proofs.ShapeLemmas.{id_of}
use Rattle.row_table.proofs.OrderLemmas.{from_less, from_left, ascends_left, ascends_right, ascends_join, in_none_below, in_behind, in_here, in_front}
use Rattle.row_table.proofs.TreeLemmas.{tree_kept, items_kept, owned_kept, owned_live, owned_distinct, owned_ids, no_items}

-- the members are the same if the id in the middle is put first
pub among_middle : (i : ℕ) (xs : List ℕ) (x : ℕ) (ys : List ℕ) → among i (xs ++ x ∷ ys) ≡ among i (x ∷ (xs ++ ys))
among_middle i xs x ys = among-append i xs (x ∷ ys) ∙ go (among i xs) (i == x) (among i ys) ∙ ap (λ (b : Bool). (i == x) || b) (sym (among-append i xs ys)) where
  go : (a b c : Bool) → (a || (b || c)) ≡ (b || (a || c))
  go true true c = refl
  go true false c = refl
  go false b c = refl

pub at_key : (s u : Store) (h a b : ItemTree) (m k : ℕ) → m ≡ k → Splits s u h m a b → Splits s u h k a b
at_key s u h a b m k e c = let P : ℕ → Type 0 = λ j. Splits s u h j a b in subst P e c

-- none of them has the key
above : (k : ℕ) (ys : List Item) → AllFrom k ys → Ascends ys → item_in k ys ≡ None → AllFrom (k + 1) ys
above k [] f g e = tt
above k (y ∷ ys) f g e = elim (eqb_tells (key y) k) [
  | inl p ↦ absurd (no (sym (in_here k y ys p.1) ∙ e))
  | inr p ↦ (omega (arith, p.1, f.0), from_less (key y + 1) (k + 1) ys (omega (arith, f.0)) g.0)
] where
  no : Some y ≡ None → ⊥
  no e = cc

module _ (s u v : Store) (h a b e f x : ItemTree) (item : Item) (tree : IsTree s h) (order : Ascends (items s h)) (absent : item_in (key item) (items s h) ≡ None)
    (out : among item.id (owned s h) ≡ false) (c : Splits s u h (key item) a b) (m : Joins u v e item f x)
    (oe : (y : Store) → owned y e ≡ []) (ie : (y : Store) → items y e ≡ []) (of : (y : Store) → owned y f ≡ []) (if' : (y : Store) → items y f ≡ []) where
  abbrev A : List ℕ
  A = owned u a

  abbrev B : List ℕ
  B = owned u b

  own_one : owned v x ≡ item.id ∷ []
  own_one = m.own ∙ ap (λ (z : List ℕ). z ++ item.id ∷ owned u f) (oe u) ∙ ap (λ (z : List ℕ). item.id ∷ z) (of u)

  item_one : items v x ≡ item ∷ []
  item_one = m.are ∙ ap (λ (z : List Item). z ++ item ∷ items u f) (ie u) ∙ ap (λ (z : List Item). item ∷ z) (if' u)

  whole : Distinct (A ++ B)
  whole = let P : List ℕ → Type 0 = Distinct in subst P c.own (owned_distinct s h tree)

  outs : (among item.id A ≡ false) × (among item.id B ≡ false)
  outs = out_parts item.id A B (sym (ap (among item.id) c.own) ∙ out)

  kept_a : (j : ℕ) → among j A ≡ true → at v j ≡ at u j
  kept_a j q = m.others j (out_of_cons j item.id [] (λ e. not_both (among j A) q (ap (λ (y : ℕ). among y A) e ∙ outs.0)) refl)

  kept_b : (j : ℕ) → among j B ≡ true → at v j ≡ at u j
  kept_b j q = m.others j (out_of_cons j item.id [] (λ e. not_both (among j B) q (ap (λ (y : ℕ). among y B) e ∙ outs.1)) refl)

  pub first_tree : IsTree v a
  first_tree = tree_kept u v a c.first kept_a

  first_ids : owned v a ++ owned v x ≡ A ++ item.id ∷ []
  first_ids = ap (λ (y : List ℕ). y ++ owned v x) (owned_kept u v a c.first kept_a) ∙ ap (λ (y : List ℕ). A ++ y) own_one

  more : Distinct (A ++ item.id ∷ B)
  more = distinct_insert A B item.id whole (out_of item.id A B outs.0 outs.1)

  split_more : (A ++ item.id ∷ []) ++ B ≡ A ++ item.id ∷ B
  split_more = append_assoc A (item.id ∷ []) B

  pub first_distinct : Distinct (owned v a ++ owned v x)
  first_distinct =
      let P : List ℕ → Type 0 = Distinct in
      subst P (sym first_ids) (distinct_left (A ++ item.id ∷ []) B (subst P (sym split_more) more))

  order_parts : Ascends (items u a ++ items u b)
  order_parts = let P : List Item → Type 0 = Ascends in subst P c.are order

  absent_b : item_in (key item) (items u b) ≡ None
  absent_b = sym (in_behind (key item) (items u a) (items u b) (in_none_below (key item) (items u a) c.below)) ∙ sym (ap (item_in (key item)) c.are) ∙ absent

  above_b : AllFrom (key item + 1) (items u b)
  above_b = above (key item) (items u b) c.from (ascends_right (items u a) (items u b) order_parts) absent_b

  module _ (w : Store) (y : ItemTree) (g : Merges v w a x y) where
    front_ids : owned w y ≡ A ++ item.id ∷ []
    front_ids = g.own ∙ first_ids

    kept : (j : ℕ) → among j B ≡ true → at w j ≡ at u j
    kept j q =
        let P : List ℕ → Type 0 = Distinct in
        let out : among j (A ++ item.id ∷ []) ≡ false = distinct_apart_back (A ++ item.id ∷ []) B (subst P (sym split_more) more) j q in
        g.others j (ap (among j) first_ids ∙ out) ∙ kept_b j q

    pub second_tree : IsTree w b
    second_tree = tree_kept u w b c.second kept

    second_ids : owned w y ++ owned w b ≡ A ++ item.id ∷ B
    second_ids = ap (λ (z : List ℕ). z ++ owned w b) front_ids ∙ ap (λ (z : List ℕ). (A ++ item.id ∷ []) ++ z) (owned_kept u w b c.second kept) ∙ split_more

    pub second_distinct : Distinct (owned w y ++ owned w b)
    second_distinct = let P : List ℕ → Type 0 = Distinct in subst P (sym second_ids) more

    pub puts : (t : Store) (z : ItemTree) → Merges w t y b z → Puts s t h item z
    puts t z f =
        let P : List Item → Type 0 = Ascends in
        let are : items t z ≡ items u a ++ item ∷ items u b = f.are
        ∙ ap (λ (q : List Item). q ++ items w b) (g.are ∙ ap (λ (q : List Item). q ++ items v x) (items_kept u v a c.first kept_a) ∙ ap (λ (q : List Item). items u a ++ q) item_one)
        ∙ ap (λ (q : List Item). (items u a ++ item ∷ []) ++ q) (items_kept u w b c.second kept)
        ∙ append_assoc (items u a) (item ∷ []) (items u b) in
        let own : owned t z ≡ A ++ item.id ∷ B = f.own ∙ second_ids in
        record {
          tree = f.tree;
          put = record { before = items u a; behind = items u b; were = c.are; are = are; below = c.below; above = above_b };
          order = subst P (sym are) (ascends_join (key item) (items u a) (item ∷ items u b) (ascends_left (items u a) (items u b) order_parts) c.below
              (omega arith, c.from) (above_b, ascends_right (items u a) (items u b) order_parts));
          member = λ i. ap (among i) own ∙ among_middle i A item.id B ∙ ap (λ (q : List ℕ). among i (item.id ∷ q)) (sym c.own);
          length = omega (arith, ap length own, ap length c.own, length-append A (item.id ∷ B), length-append A B);
          others = λ i q. other i (among_middle i A item.id B ∙ ap (λ (q : List ℕ). among i (item.id ∷ q)) (sym c.own) ∙ q);
          spare = f.spare ∙ g.spare ∙ m.spare ∙ c.spare;
          as_many = f.as_many ∙ g.as_many ∙ m.as_many ∙ c.as_many;
        } where
          other : (j : ℕ) → among j (A ++ item.id ∷ B) ≡ false → at t j ≡ at s j
          other j q =
              let o = out_parts j A (item.id ∷ B) q in
              let r = out_cons j item.id B o.1 in
              let one : among j (item.id ∷ []) ≡ false = out_of_cons j item.id [] r.0 refl in
              f.others j (ap (among j) second_ids ∙ q)
              ∙ g.others j (ap (among j) first_ids ∙ out_of j A (item.id ∷ []) o.0 one)
              ∙ m.others j one
              ∙ c.others j (ap (among j) c.own ∙ out_of j A B o.0 r.1)

-- a key has only one item
record Single (k : ℕ) (ns : List Item) : Type 0 where
  item : Item
  is : ns ≡ item ∷ []
  key_is : key item ≡ k

one_item : (k : ℕ) (ns : List Item) → AllBelow (k + 1) ns → AllFrom k ns → Ascends ns → IsSome (item_in k ns) → Single k ns
one_item k [] b f g some = absurd (not_both false some refl)
one_item k (n ∷ []) b f g some = record { item = n; is = refl; key_is = omega (arith, b.0, f.0) }
one_item k (n ∷ m ∷ ns) b f g some = absurd (omega (arith, f.0, g.0.0, b.1.0))

only : (xs : List Item) (x : Item) (ys : List Item) (z : Item) → xs ++ x ∷ ys ≡ z ∷ [] → x ≡ z
only [] x ys z e = cc
only (w ∷ []) x ys z e = absurd (no x ys e) where
  no : (x : Item) (ys : List Item) → w ∷ x ∷ ys ≡ z ∷ [] → ⊥
  no x ys e = cc
only (w ∷ v ∷ xs) x ys z e = absurd (no (xs ++ x ∷ ys) e) where
  no : (ys : List Item) → w ∷ v ∷ ys ≡ z ∷ [] → ⊥
  no ys e = cc

module _ (s u : Store) (h a r : ItemTree) (k : ℕ) (tree : IsTree s h) (order : Ascends (items s h)) (some : IsSome (item_in k (items s h))) (c : Splits s u h k a r) where
  parts : Ascends (items u a ++ items u r)
  parts = let P : List Item → Type 0 = Ascends in subst P c.are order

  pub rest_order : Ascends (items u r)
  rest_order = ascends_right (items u a) (items u r) parts

  rest_some : item_in k (items u r) ≡ item_in k (items s h)
  rest_some = sym (in_behind k (items u a) (items u r) (in_none_below k (items u a) c.below)) ∙ sym (ap (item_in k) c.are)

  module _ (v : Store) (o d : ItemTree) (g : Splits u v r (k + 1) o d) where
    rest_parts : Ascends (items v o ++ items v d)
    rest_parts = let P : List Item → Type 0 = Ascends in subst P g.are rest_order

    one_some : IsSome (item_in k (items v o))
    one_some =
        let Q : Option Item → Type 0 = λ z. IsSome z in
        subst Q (sym (sym (in_front k (k + 1) (items v o) (items v d) (omega arith) g.from) ∙ sym (ap (item_in k) g.are) ∙ rest_some)) some

    one : Single k (items v o)
    one = let P : List Item → Type 0 = AllFrom k in one_item k (items v o) g.below (from_left k (items v o) (items v d) (subst P g.are c.from)) (ascends_left (items v o) (items v d) rest_parts) one_some

    pub root_some : 0 < o.root
    root_some = elim (eqb_tells o.root 0) [
      | inl p ↦ absurd (no one.item (sym (no_items v o p.1) ∙ one.is))
      | inr p ↦ omega (arith, p.1)
    ] where
      no : (z : Item) → [] ≡ z ∷ [] → ⊥
      no z e = cc

    one_own : owned v o ≡ one.item.id ∷ []
    one_own = owned_ids v o ∙ ap (map id_of) one.is

    rest_ids : owned u r ≡ one.item.id ∷ owned v d
    rest_ids = g.own ∙ ap (λ (z : List ℕ). z ++ owned v d) one_own

    all_ids : owned s h ≡ owned u a ++ one.item.id ∷ owned v d
    all_ids = c.own ∙ ap (λ (z : List ℕ). owned u a ++ z) rest_ids

    all_distinct : Distinct (owned u a ++ one.item.id ∷ owned v d)
    all_distinct = let P : List ℕ → Type 0 = Distinct in subst P all_ids (owned_distinct s h tree)

    kept_first : (j : ℕ) → among j (owned u a) ≡ true → at v j ≡ at u j
    kept_first j q = g.others j (ap (among j) rest_ids ∙ distinct_apart (owned u a) (one.item.id ∷ owned v d) all_distinct j q)

    pub before_tree : IsTree v a
    before_tree = tree_kept u v a c.first kept_first

    left_ids : owned v a ++ owned v d ≡ owned u a ++ owned v d
    left_ids = ap (λ (z : List ℕ). z ++ owned v d) (owned_kept u v a c.first kept_first)

    pub left_distinct : Distinct (owned v a ++ owned v d)
    left_distinct = let P : List ℕ → Type 0 = Distinct in subst P (sym left_ids) (distinct_remove (owned u a) (owned v d) one.item.id all_distinct).1

    gone : among one.item.id (owned u a ++ owned v d) ≡ false
    gone = (distinct_remove (owned u a) (owned v d) one.item.id all_distinct).0

    takes_one : (t : Store) (z : ItemTree) → Merges v t a d z → Takes s t h k one.item z
    takes_one t z f =
        let P : List Item → Type 0 = Ascends in
        let rest : items u r ≡ one.item ∷ items v d = g.are ∙ ap (λ (q : List Item). q ++ items v d) one.is in
        let were : items t z ≡ items u a ++ items v d = f.are ∙ ap (λ (q : List Item). q ++ items v d) (items_kept u v a c.first kept_first) in
        let own : owned t z ≡ owned u a ++ owned v d = f.own ∙ left_ids in
        let Q : ℕ → Type 0 = λ j. AllBelow j (items u a) in
        let R : ℕ → Type 0 = λ j. AllFrom (j + 1) (items v d) in
        let L : List ℕ → Type 0 = λ q. among one.item.id q ≡ false in
        let alive : IsSome (at v one.item.id) = owned_live v o g.first one.item.id (ap (among one.item.id) one_own ∙ among_first one.item.id []) in
        let same : at t one.item.id ≡ at v one.item.id = f.others one.item.id (ap (among one.item.id) left_ids ∙ gone) in
        record {
          tree = f.tree;
          taken = record {
            before = items u a;
            behind = items v d;
            were = were;
            are = c.are ∙ ap (λ (q : List Item). items u a ++ q) rest;
            below = subst Q (sym one.key_is) c.below;
            above = subst R (sym one.key_is) g.from;
          };
          key = one.key_is;
          order = subst P (sym were) (ascends_join k (items u a) (items v d) (ascends_left (items u a) (items u r) parts) c.below (from_less (k + 1) k (items v d) (omega arith) g.from) (ascends_right (items v o) (items v d) rest_parts));
          member = λ i. ap (among i) all_ids ∙ among_middle i (owned u a) one.item.id (owned v d) ∙ ap (λ (q : List ℕ). among i (one.item.id ∷ q)) (sym own);
          length = omega (arith, ap length own, ap length all_ids, length-append (owned u a) (one.item.id ∷ owned v d), length-append (owned u a) (owned v d));
          out = subst L (sym own) gone;
          live = rw same alive;
          others = λ i q. other i (sym (ap (among i) all_ids) ∙ q);
          spare = f.spare ∙ g.spare ∙ c.spare;
          as_many = f.as_many ∙ g.as_many ∙ c.as_many;
        } where
          other : (j : ℕ) → among j (owned u a ++ one.item.id ∷ owned v d) ≡ false → at t j ≡ at s j
          other j p =
              let o = out_parts j (owned u a) (one.item.id ∷ owned v d) p in
              let q = out_cons j one.item.id (owned v d) o.1 in
              f.others j (ap (among j) left_ids ∙ out_of j (owned u a) (owned v d) o.0 q.1)
              ∙ g.others j (ap (among j) rest_ids ∙ o.1)
              ∙ c.others j (ap (among j) all_ids ∙ p)

    pub takes : (n : Node) → Opens v o n → (t : Store) (z : ItemTree) → Merges v t a d z → Takes s t h k n.item z
    takes n p t z f =
        let same : n.item ≡ one.item = only (items v n.left) n.item (items v n.right) one.item (sym p.are ∙ one.is) in
        let P : Item → Type 0 = λ i. Takes s t h k i z in
        subst P (sym same) (takes_one t z f)
