-- A live element that becomes a run of a tree.
use Rattle.std.proofs.Common.{◌≡◌, ◌≢◌, ℕ, zero, suc, ◌+◌, ◌-◌, ◌<◌, ◌≤◌, true, false, inl, inr, List, [], ◌∷◌, ◌++◌, length, take, drop, Some, None, refl, sym, ap, ◌∙◌, arith, IsSome, subst, append_assoc, length-append}
use Rattle.std.proofs.lemmas.List.{take_at, drop_at, take-append-drop, take-append-le, drop-append-le}
use Rattle.std.proofs.lemmas.Bool.Decides.{eqb_tells}
use Rattle.vsm_elements.specs.declared.element.Element.{Element}
use Rattle.vsm_elements.specs.Store.{Store, at, among, Distinct, Updates}
use Rattle.vsm_elements.specs.Ownership.{Leaves}
use Rattle.vsm_elements.proofs.StoreLemmas.{among_first, among_later}
use Rattle.vsm_elements.proofs.ChainLemmas.{not_both, distinct_insert}
use Rattle.vsm_elements.proofs.ChainFrame.{gone}
use Rattle.run_tree.specs.declared.run.Run.{Run}
use Rattle.run_tree.specs.declared.tree.RunTree.{RunTree}
use Rattle.run_tree.specs.declared.shape.RunNode.{RunNode}
use Rattle.run_tree.specs.Trees.{runs, owned, IsTree, Opens, Joins, Splits, Puts}
use Rattle.run_tree.proofs.Lists.{false_if, out_parts, out_of, out_cons, out_of_cons, distinct_right, distinct_apart, distinct_apart_back}
use Rattle.run_tree.proofs.TreeLemmas.{tree_kept, runs_kept, owned_kept, no_runs, none_owned, length-tree, length-owned, owned_live, owned_distinct}

-- lists

-- x at k of a list in two parts with one between, if k is in the left part, or in the right one
pub put_left : {A : Type 0} (k : ℕ) (xs : List A) (y x : A) (ys : List A) → k ≤ length xs
    → (take k xs ++ x ∷ drop k xs) ++ y ∷ ys ≡ take k (xs ++ y ∷ ys) ++ x ∷ drop k (xs ++ y ∷ ys)
put_left k xs y x ys le =
    append_assoc (take k xs) (x ∷ drop k xs) (y ∷ ys)
    ∙ ap (λ (z : List _). z ++ x ∷ (drop k xs ++ y ∷ ys)) (sym (take-append-le k xs (y ∷ ys) le))
    ∙ ap (λ (z : List _). take k (xs ++ y ∷ ys) ++ x ∷ z) (sym (drop-append-le k xs (y ∷ ys) le))

take_past : {A : Type 0} (j : ℕ) (xs : List A) (y : A) (ys : List A) → take (length xs + 1 + j) (xs ++ y ∷ ys) ≡ xs ++ y ∷ take j ys
take_past j [] y ys = let e : 0 + 1 + j ≡ suc j = omega arith in ap (λ (n : ℕ). take n (y ∷ ys)) e
take_past j (x ∷ xs) y ys = let e : suc (length xs) + 1 + j ≡ suc (length xs + 1 + j) = omega arith in ap (λ (n : ℕ). take n (x ∷ (xs ++ y ∷ ys))) e ∙ ap (λ (z : List _). x ∷ z) (take_past j xs y ys)

drop_past : {A : Type 0} (j : ℕ) (xs : List A) (y : A) (ys : List A) → drop (length xs + 1 + j) (xs ++ y ∷ ys) ≡ drop j ys
drop_past j [] y ys = let e : 0 + 1 + j ≡ suc j = omega arith in ap (λ (n : ℕ). drop n (y ∷ ys)) e
drop_past j (x ∷ xs) y ys = let e : suc (length xs) + 1 + j ≡ suc (length xs + 1 + j) = omega arith in ap (λ (n : ℕ). drop n (x ∷ (xs ++ y ∷ ys))) e ∙ drop_past j xs y ys

pub take_behind : {A : Type 0} (k j : ℕ) (xs : List A) (y : A) (ys : List A) → k ≡ length xs + 1 + j → take k (xs ++ y ∷ ys) ≡ xs ++ y ∷ take j ys
take_behind k j xs y ys e = ap (λ (n : ℕ). take n (xs ++ y ∷ ys)) e ∙ take_past j xs y ys

pub drop_behind : {A : Type 0} (k j : ℕ) (xs : List A) (y : A) (ys : List A) → k ≡ length xs + 1 + j → drop k (xs ++ y ∷ ys) ≡ drop j ys
drop_behind k j xs y ys e = ap (λ (n : ℕ). drop n (xs ++ y ∷ ys)) e ∙ drop_past j xs y ys

pub put_right : {A : Type 0} (k j : ℕ) (xs : List A) (y x : A) (ys : List A) → k ≡ length xs + 1 + j
    → xs ++ y ∷ (take j ys ++ x ∷ drop j ys) ≡ take k (xs ++ y ∷ ys) ++ x ∷ drop k (xs ++ y ∷ ys)
put_right k j xs y x ys e =
    sym (append_assoc xs (y ∷ take j ys) (x ∷ drop j ys))
    ∙ ap (λ (z : List _). z ++ x ∷ drop j ys) (sym (take_behind k j xs y ys e))
    ∙ ap (λ (z : List _). take k (xs ++ y ∷ ys) ++ x ∷ z) (sym (drop_behind k j xs y ys e))

-- the same ids, and one more
pub put_distinct : (k : ℕ) (xs : List ℕ) (x : ℕ) → Distinct xs → among x xs ≡ false → Distinct (take k xs ++ x ∷ drop k xs)
put_distinct k xs x d out =
    let P : List ℕ → Type 0 = Distinct in
    distinct_insert (take k xs) (drop k xs) x (subst P (sym (take-append-drop k xs)) d) (ap (among x) (take-append-drop k xs) ∙ out)

pub out_put : (i k : ℕ) (xs : List ℕ) (x : ℕ) → i ≢ x → among i xs ≡ false → among i (take k xs ++ x ∷ drop k xs) ≡ false
out_put i k xs x ne out =
    let p = out_parts i (take k xs) (drop k xs) (ap (among i) (take-append-drop k xs) ∙ out) in
    out_of i (take k xs) (x ∷ drop k xs) p.0 (out_of_cons i x (drop k xs) ne p.1)

pub put_out : (i k : ℕ) (xs : List ℕ) (x : ℕ) → among i (take k xs ++ x ∷ drop k xs) ≡ false → (i ≢ x) × (among i xs ≡ false)
put_out i k xs x out =
    let p = out_parts i (take k xs) (x ∷ drop k xs) out in
    let q = out_cons i x (drop k xs) p.1 in
    (q.0, sym (ap (among i) (take-append-drop k xs)) ∙ out_of i (take k xs) (drop k xs) p.0 q.1)

-- the tree was empty
pub put_alone : (s : Store) (h : RunTree) (id : ℕ) → IsTree s h → h.count ≡ 0 → Distinct (owned s h ++ id ∷ owned s h)
put_alone s h id t e =
    let P : List ℕ → Type 0 = λ x. Distinct (x ++ id ∷ x) in
    subst P (sym (none_owned s h t e)) (refl, tt)

pub put_first : (s t : Store) (h r : RunTree) (k id : ℕ) (run : Run) → IsTree s h → h.count ≡ 0 → Joins s t h id run h r → Puts s t h k id run r
put_first s t h r k id run tree e j = record {
  tree = j.tree;
  are = j.are ∙ (let P : List Run → Type 0 = λ x. x ++ run ∷ x ≡ take k x ++ run ∷ drop k x in subst P (sym (no_runs s h tree e)) (ap (λ (x : List Run). x ++ run ∷ []) (sym (take_none k)) ∙ ap (λ (x : List Run). take k [] ++ run ∷ x) (sym (drop_none k))));
  own = j.own ∙ (let P : List ℕ → Type 0 = λ x. x ++ id ∷ x ≡ take k x ++ id ∷ drop k x in subst P (sym (none_owned s h tree e)) (ap (λ (x : List ℕ). x ++ id ∷ []) (sym (take_none k)) ∙ ap (λ (x : List ℕ). take k [] ++ id ∷ x) (sym (drop_none k))));
  count = omega (arith, j.count, e);
  others = λ i out. j.others i (out_of_cons i id [] (out_cons i id (owned s h) out).0 refl);
  spare = j.spare;
  as_many = j.as_many;
} where
  take_none : {A : Type 0} (n : ℕ) → take {A = A} n [] ≡ []
  take_none zero = refl
  take_none (suc n) = refl

  drop_none : {A : Type 0} (n : ℕ) → drop {A = A} n [] ≡ []
  drop_none zero = refl
  drop_none (suc n) = refl

-- the element is above the whole tree
module _ (s u : Store) (h a b : RunTree) (k id : ℕ) (run : Run) (tree : IsTree s h) (live : IsSome (at s id)) (out : among id (owned s h) ≡ false) (c : Splits s u h k a b) where
  cut_ids : (take k (owned s h) ≡ owned u a) × (drop k (owned s h) ≡ owned u b)
  cut_ids = (
    ap (take k) c.own ∙ take_at (owned u a) (owned u b) k (length-owned u a c.first ∙ c.count),
    ap (drop k) c.own ∙ drop_at (owned u a) (owned u b) k (length-owned u a c.first ∙ c.count),
  )

  cut_runs : (take k (runs s h) ≡ runs u a) × (drop k (runs s h) ≡ runs u b)
  cut_runs = (
    ap (take k) c.are ∙ take_at (runs u a) (runs u b) k (length-tree u a c.first ∙ c.count),
    ap (drop k) c.are ∙ drop_at (runs u a) (runs u b) k (length-tree u a c.first ∙ c.count),
  )

  pub top_distinct : Distinct (owned u a ++ id ∷ owned u b)
  top_distinct =
      let P : List ℕ → Type 0 = Distinct in
      distinct_insert (owned u a) (owned u b) id (subst P c.own (owned_distinct s h tree)) (sym (ap (among id) c.own) ∙ out)

  pub top_live : IsSome (at u id)
  top_live = let e : at u id ≡ at s id = c.others id out in rw e live

  pub put_top : (t : Store) (r : RunTree) → Joins u t a id run b r → Puts s t h k id run r
  put_top t r j = record {
    tree = j.tree;
    are = j.are ∙ ap (λ (x : List Run). x ++ run ∷ runs u b) (sym cut_runs.0) ∙ ap (λ (x : List Run). take k (runs s h) ++ run ∷ x) (sym cut_runs.1);
    own = j.own ∙ ap (λ (x : List ℕ). x ++ id ∷ owned u b) (sym cut_ids.0) ∙ ap (λ (x : List ℕ). take k (owned s h) ++ id ∷ x) (sym cut_ids.1);
    count = omega (arith, j.count, c.rest);
    others = λ i o. (let q = out_cons i id (owned s h) o in j.others i (out_of_cons i id [] q.0 refl) ∙ c.others i q.1);
    spare = j.spare ∙ c.spare;
    as_many = j.as_many ∙ c.as_many;
  }

-- it goes into one of the parts
module _ (s : Store) (h : RunTree) (n : RunNode) (o : Opens s h n) (id : ℕ) (run : Run) (live : IsSome (at s id)) (out : among id (owned s h) ≡ false) where
  abbrev L : List ℕ
  L = owned s n.left

  abbrev R : List ℕ
  R = owned s n.right

  outs : (among id L ≡ false) × (among id (n.id ∷ R) ≡ false)
  outs = out_parts id L (n.id ∷ R) (ap (among id) (sym o.own) ∙ out)

  pub out_left : among id (owned s n.left) ≡ false
  out_left = outs.0

  pub out_right : among id (owned s n.right) ≡ false
  out_right = (out_cons id n.id R outs.1).1

  not_id : id ≢ n.id
  not_id = (out_cons id n.id R outs.1).0

  not_top : (i : ℕ) → among i (id ∷ owned s h) ≡ false → among i (n.id ∷ []) ≡ false
  not_top i q =
      let p = out_parts i L (n.id ∷ R) (ap (among i) (sym o.own) ∙ (out_cons i id (owned s h) q).1) in
      out_of_cons i n.id [] (out_cons i n.id R p.1).0 refl

  module _ (k : ℕ) (low : k ≤ n.left.count) (u : Store) (m : RunTree) (g : Puts s u n.left k id run m) where
    same : (i : ℕ) → among i (n.id ∷ R) ≡ true → at u i ≡ at s i
    same i q = g.others i (out_of_cons i id L (λ e. not_both (among i (n.id ∷ R)) q (ap (λ (j : ℕ). among j (n.id ∷ R)) e ∙ outs.1)) (distinct_apart_back L (n.id ∷ R) o.distinct i q))

    pub right_tree : IsTree u n.right
    right_tree = tree_kept s u n.right o.right (λ i q. same i (among_later i n.id R q))

    right_runs : runs u n.right ≡ runs s n.right
    right_runs = runs_kept s u n.right o.right (λ i q. same i (among_later i n.id R q))

    right_owned : owned u n.right ≡ R
    right_owned = owned_kept s u n.right o.right (λ i q. same i (among_later i n.id R q))

    ids : owned u m ++ n.id ∷ owned u n.right ≡ take k (owned s h) ++ id ∷ drop k (owned s h)
    ids = ap (λ (x : List ℕ). x ++ n.id ∷ owned u n.right) g.own
        ∙ ap (λ (x : List ℕ). (take k L ++ id ∷ drop k L) ++ n.id ∷ x) right_owned
        ∙ put_left k L n.id id R (omega (arith, low, length-owned s n.left o.left))
        ∙ ap (λ (x : List ℕ). take k x ++ id ∷ drop k x) (sym o.own)

    pub up_distinct : Distinct (owned u m ++ n.id ∷ owned u n.right)
    up_distinct =
        let P : List ℕ → Type 0 = Distinct in
        subst P (sym ids) (put_distinct k (owned s h) id (subst P (sym o.own) o.distinct) out)

    pub up_kept : at u n.id ≡ at s n.id
    up_kept = same n.id (among_first n.id R)

    pub up_live : IsSome (at u n.id)
    up_live = rw up_kept o.live

    pub up_are : runs u m ++ n.run ∷ runs u n.right ≡ take k (runs s h) ++ run ∷ drop k (runs s h)
    up_are = ap (λ (x : List Run). runs u m ++ n.run ∷ x) right_runs
        ∙ ap (λ (x : List Run). x ++ n.run ∷ runs s n.right) g.are
        ∙ put_left k (runs s n.left) n.run run (runs s n.right) (omega (arith, low, length-tree s n.left o.left))
        ∙ ap (λ (x : List Run). take k x ++ run ∷ drop k x) (sym o.are)

    pub put_before : (t : Store) (r : RunTree) → Joins u t m n.id n.run n.right r → Puts s t h k id run r
    put_before t r j = record {
      tree = j.tree;
      are = j.are ∙ up_are;
      own = j.own ∙ ids;
      count = omega (arith, j.count, g.count, o.count);
      others = λ i q. (let p = out_cons i id (owned s h) q in
          j.others i (not_top i q) ∙ g.others i (out_of_cons i id L p.0 (out_parts i L (n.id ∷ R) (ap (among i) (sym o.own) ∙ p.1)).0));
      spare = j.spare ∙ g.spare;
      as_many = j.as_many ∙ g.as_many;
    }

  module _ (k k' : ℕ) (high : n.left.count < k) (less : k' ≡ k - n.left.count - 1) (u : Store) (m : RunTree) (g : Puts s u n.right k' id run m) where
    same' : (i : ℕ) → among i (id ∷ R) ≡ false → at u i ≡ at s i
    same' i q = g.others i q

    left_same : (i : ℕ) → among i L ≡ true → at u i ≡ at s i
    left_same i q = g.others i (out_of_cons i id R (λ e. not_both (among i L) q (ap (λ (j : ℕ). among j L) e ∙ outs.0)) (out_cons i n.id R (distinct_apart L (n.id ∷ R) o.distinct i q)).1)

    pub left_tree : IsTree u n.left
    left_tree = tree_kept s u n.left o.left left_same

    left_runs : runs u n.left ≡ runs s n.left
    left_runs = runs_kept s u n.left o.left left_same

    left_owned : owned u n.left ≡ L
    left_owned = owned_kept s u n.left o.left left_same

    at_ids : k ≡ length L + 1 + k'
    at_ids = omega (arith, high, less, length-owned s n.left o.left)

    at_runs : k ≡ length (runs s n.left) + 1 + k'
    at_runs = omega (arith, high, less, length-tree s n.left o.left)

    ids' : owned u n.left ++ n.id ∷ owned u m ≡ take k (owned s h) ++ id ∷ drop k (owned s h)
    ids' = ap (λ (x : List ℕ). x ++ n.id ∷ owned u m) left_owned
        ∙ ap (λ (x : List ℕ). L ++ n.id ∷ x) g.own
        ∙ put_right k k' L n.id id R at_ids
        ∙ ap (λ (x : List ℕ). take k x ++ id ∷ drop k x) (sym o.own)

    pub up_distinct' : Distinct (owned u n.left ++ n.id ∷ owned u m)
    up_distinct' =
        let P : List ℕ → Type 0 = Distinct in
        subst P (sym ids') (put_distinct k (owned s h) id (subst P (sym o.own) o.distinct) out)

    pub up_kept' : at u n.id ≡ at s n.id
    up_kept' = g.others n.id (out_of_cons n.id id R (λ q. not_id (sym q)) (distinct_right L (n.id ∷ R) o.distinct).0)

    pub up_live' : IsSome (at u n.id)
    up_live' = rw up_kept' o.live

    pub up_are' : runs u n.left ++ n.run ∷ runs u m ≡ take k (runs s h) ++ run ∷ drop k (runs s h)
    up_are' = ap (λ (x : List Run). x ++ n.run ∷ runs u m) left_runs
        ∙ ap (λ (x : List Run). runs s n.left ++ n.run ∷ x) g.are
        ∙ put_right k k' (runs s n.left) n.run run (runs s n.right) at_runs
        ∙ ap (λ (x : List Run). take k x ++ run ∷ drop k x) (sym o.are)

    pub put_behind : (t : Store) (r : RunTree) → Joins u t n.left n.id n.run m r → Puts s t h k id run r
    put_behind t r j = record {
      tree = j.tree;
      are = j.are ∙ up_are';
      own = j.own ∙ ids';
      count = omega (arith, j.count, g.count, o.count);
      others = λ i q. (let p = out_cons i id (owned s h) q in
          j.others i (not_top i q) ∙ g.others i (out_of_cons i id R p.0 (out_cons i n.id R (out_parts i L (n.id ∷ R) (ap (among i) (sym o.own) ∙ p.1)).1).1));
      spare = j.spare ∙ g.spare;
      as_many = j.as_many ∙ g.as_many;
    }

-- the whole call: the element was spare before

module _ (s u : Store) (h : RunTree) (id : ℕ) (b : Element) (tree : IsTree s h) (fresh : at s id ≡ None) (up : Updates s u id (Some b)) where
  pub fresh_out : among id (owned s h) ≡ false
  fresh_out = false_if (among id (owned s h)) (λ m. gone (at s id) fresh (owned_live s h tree id m))

  kept : (i : ℕ) → among i (owned s h) ≡ true → at u i ≡ at s i
  kept i m = up.others i (λ e. not_both (among i (owned s h)) m (ap (λ (j : ℕ). among j (owned s h)) e ∙ fresh_out))

  pub taken_tree : IsTree u h
  taken_tree = tree_kept s u h tree kept

  pub taken_live : IsSome (at u id)
  taken_live = rw (up.changed) refl

  pub taken_out : among id (owned u h) ≡ false
  taken_out = ap (among id) (owned_kept s u h tree kept) ∙ fresh_out

  module _ (k : ℕ) (run : Run) (t : Store) (r : RunTree) (g : Puts u t h k id run r) where
    pub put_runs : runs t r ≡ take k (runs s h) ++ run ∷ drop k (runs s h)
    put_runs = g.are ∙ ap (λ (x : List Run). take k x ++ run ∷ drop k x) (runs_kept s u h tree kept)

    same_ids : owned u h ≡ owned s h
    same_ids = owned_kept s u h tree kept

    put_ids : owned t r ≡ take k (owned s h) ++ id ∷ drop k (owned s h)
    put_ids = g.own ∙ ap (λ (x : List ℕ). take k x ++ id ∷ drop k x) same_ids

    pub put_leaves : u.spare + 1 ≡ s.spare → Leaves s t (owned s h) (owned t r)
    put_leaves fewer =
        let P : List ℕ → Type 0 = λ x. Leaves s t (owned s h) x in
        subst P (sym put_ids) (record {
          others = λ i p q. (let z = put_out i k (owned s h) id q in g.others i (out_of_cons i id (owned u h) z.0 (ap (among i) same_ids ∙ p)) ∙ up.others i z.0);
          gained = λ i p q. new i p q;
          lost = λ i p q. absurd (not_both (among i (owned s h)) p (put_out i k (owned s h) id q).1);
          spare = omega (arith, g.spare, fewer, length-append (take k (owned s h)) (id ∷ drop k (owned s h)), length-append (take k (owned s h)) (drop k (owned s h)), ap length (take-append-drop k (owned s h)));
          as_many = g.as_many ∙ up.as_many;
        }) where
          new : (i : ℕ) → among i (owned s h) ≡ false → among i (take k (owned s h) ++ id ∷ drop k (owned s h)) ≡ true → at s i ≡ None
          new i p q = elim (eqb_tells i id) [
            | inl e ↦ ap (at s) e.1 ∙ fresh
            | inr e ↦ absurd (not_both (among i (take k (owned s h) ++ id ∷ drop k (owned s h))) q (out_put i k (owned s h) id e.1 p))
          ]
