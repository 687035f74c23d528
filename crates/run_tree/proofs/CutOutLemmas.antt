-- A run that is removed from a tree.
use Rattle.std.proofs.Common.{◌≡◌, ◌≢◌, ℕ, ◌+◌, ◌-◌, ◌<◌, true, false, inl, inr, List, [], ◌∷◌, ◌++◌, length, take, drop, None, refl, sym, ap, ◌∙◌, arith, IsSome, subst, append_assoc, length-append}
use Rattle.std.proofs.lemmas.List.{take_at, take-append-le, drop-append-le}
use Rattle.std.proofs.lemmas.Bool.Decides.{eqb_tells}
use Rattle.vsm_elements.specs.Store.{Store, at, among, Distinct, Updates}
use Rattle.vsm_elements.specs.Ownership.{Leaves}
use Rattle.vsm_elements.proofs.StoreLemmas.{among_first, among_later}
use Rattle.vsm_elements.proofs.ChainLemmas.{not_both, distinct_remove}
use Rattle.run_tree.specs.declared.run.Run.{Run}
use Rattle.run_tree.specs.declared.tree.RunTree.{RunTree}
use Rattle.run_tree.specs.declared.shape.RunNode.{RunNode}
use Rattle.run_tree.specs.Trees.{runs, owned, IsTree, Opens, Joins, Merges, CutsOut}
use Rattle.run_tree.proofs.Lists.{in_left, in_right, in_middle, out_parts, out_of, out_cons, out_of_cons, distinct_right, distinct_apart, distinct_apart_back, not_middle}
use Rattle.run_tree.proofs.PutLemmas.{take_behind, drop_behind}
use Rattle.run_tree.proofs.TreeLemmas.{tree_kept, runs_kept, owned_kept, length-tree, length-owned, owned_live, owned_distinct}

-- lists

pub gone_left : {A : Type 0} (k : ℕ) (xs : List A) (y : A) (ys : List A) → k < length xs
    → (take k xs ++ drop (k + 1) xs) ++ y ∷ ys ≡ take k (xs ++ y ∷ ys) ++ drop (k + 1) (xs ++ y ∷ ys)
gone_left k xs y ys low =
    append_assoc (take k xs) (drop (k + 1) xs) (y ∷ ys)
    ∙ ap (λ (z : List _). z ++ (drop (k + 1) xs ++ y ∷ ys)) (sym (take-append-le k xs (y ∷ ys) (omega arith)))
    ∙ ap (λ (z : List _). take k (xs ++ y ∷ ys) ++ z) (sym (drop-append-le (k + 1) xs (y ∷ ys) (omega arith)))

pub was_left : {A : Type 0} (k : ℕ) (xs : List A) (y x : A) (ys : List A) → k < length xs → xs ≡ take k xs ++ x ∷ drop (k + 1) xs
    → xs ++ y ∷ ys ≡ take k (xs ++ y ∷ ys) ++ x ∷ drop (k + 1) (xs ++ y ∷ ys)
was_left k xs y x ys low e =
    ap (λ (z : List _). z ++ y ∷ ys) e
    ∙ append_assoc (take k xs) (x ∷ drop (k + 1) xs) (y ∷ ys)
    ∙ ap (λ (z : List _). z ++ x ∷ (drop (k + 1) xs ++ y ∷ ys)) (sym (take-append-le k xs (y ∷ ys) (omega arith)))
    ∙ ap (λ (z : List _). take k (xs ++ y ∷ ys) ++ x ∷ z) (sym (drop-append-le (k + 1) xs (y ∷ ys) (omega arith)))

take_here : {A : Type 0} (k : ℕ) (xs : List A) (y : A) (ys : List A) → length xs ≡ k → take k (xs ++ y ∷ ys) ≡ xs
take_here k xs y ys e = take_at xs (y ∷ ys) k e

drop_here : {A : Type 0} (k : ℕ) (xs : List A) (y : A) (ys : List A) → length xs ≡ k → drop (k + 1) (xs ++ y ∷ ys) ≡ ys
drop_here k xs y ys e = drop_behind (k + 1) 0 xs y ys (omega (arith, e))

pub gone_here : {A : Type 0} (k : ℕ) (xs : List A) (y : A) (ys : List A) → length xs ≡ k → xs ++ ys ≡ take k (xs ++ y ∷ ys) ++ drop (k + 1) (xs ++ y ∷ ys)
gone_here k xs y ys e = ap (λ (z : List _). z ++ ys) (sym (take_here k xs y ys e)) ∙ ap (λ (z : List _). take k (xs ++ y ∷ ys) ++ z) (sym (drop_here k xs y ys e))

pub was_here : {A : Type 0} (k : ℕ) (xs : List A) (y : A) (ys : List A) → length xs ≡ k → xs ++ y ∷ ys ≡ take k (xs ++ y ∷ ys) ++ y ∷ drop (k + 1) (xs ++ y ∷ ys)
was_here k xs y ys e = ap (λ (z : List _). z ++ y ∷ ys) (sym (take_here k xs y ys e)) ∙ ap (λ (z : List _). take k (xs ++ y ∷ ys) ++ y ∷ z) (sym (drop_here k xs y ys e))

pub gone_right : {A : Type 0} (k j : ℕ) (xs : List A) (y : A) (ys : List A) → k ≡ length xs + 1 + j
    → xs ++ y ∷ (take j ys ++ drop (j + 1) ys) ≡ take k (xs ++ y ∷ ys) ++ drop (k + 1) (xs ++ y ∷ ys)
gone_right k j xs y ys e =
    sym (append_assoc xs (y ∷ take j ys) (drop (j + 1) ys))
    ∙ ap (λ (z : List _). z ++ drop (j + 1) ys) (sym (take_behind k j xs y ys e))
    ∙ ap (λ (z : List _). take k (xs ++ y ∷ ys) ++ z) (sym (drop_behind (k + 1) (j + 1) xs y ys (omega (arith, e))))

pub was_right : {A : Type 0} (k j : ℕ) (xs : List A) (y x : A) (ys : List A) → k ≡ length xs + 1 + j → ys ≡ take j ys ++ x ∷ drop (j + 1) ys
    → xs ++ y ∷ ys ≡ take k (xs ++ y ∷ ys) ++ x ∷ drop (k + 1) (xs ++ y ∷ ys)
was_right k j xs y x ys e w =
    ap (λ (z : List _). xs ++ y ∷ z) w
    ∙ sym (append_assoc xs (y ∷ take j ys) (x ∷ drop (j + 1) ys))
    ∙ ap (λ (z : List _). z ++ x ∷ drop (j + 1) ys) (sym (take_behind k j xs y ys e))
    ∙ ap (λ (z : List _). take k (xs ++ y ∷ ys) ++ x ∷ z) (sym (drop_behind (k + 1) (j + 1) xs y ys (omega (arith, e))))

module _ (s : Store) (h : RunTree) (n : RunNode) (o : Opens s h n) where
  abbrev L : List ℕ
  L = owned s n.left

  abbrev R : List ℕ
  R = owned s n.right

  parts : (i : ℕ) → among i (owned s h) ≡ false → (among i L ≡ false) × (among i (n.id ∷ R) ≡ false)
  parts i out = out_parts i L (n.id ∷ R) (ap (among i) (sym o.own) ∙ out)

  not_top : (i : ℕ) → among i (owned s h) ≡ false → among i (n.id ∷ []) ≡ false
  not_top i out = out_of_cons i n.id [] (out_cons i n.id R (parts i out).1).0 refl

  -- the node itself
  pub both_distinct : Distinct (owned s n.left ++ owned s n.right)
  both_distinct = (distinct_remove L R n.id o.distinct).1

  pub cut_here : (k : ℕ) (t : Store) (r : RunTree) → k ≡ n.left.count → Merges s t n.left n.right r → CutsOut s t h k r n.id
  cut_here k t r e g = record {
    tree = g.tree;
    are = g.are ∙ gone_here k (runs s n.left) n.run (runs s n.right) (length-tree s n.left o.left ∙ sym e) ∙ ap (λ (x : List Run). take k x ++ drop (k + 1) x) (sym o.are);
    own = g.own ∙ gone_here k L n.id R (length-owned s n.left o.left ∙ sym e) ∙ ap (λ (x : List ℕ). take k x ++ drop (k + 1) x) (sym o.own);
    was = o.own ∙ was_here k L n.id R (length-owned s n.left o.left ∙ sym e) ∙ ap (λ (x : List ℕ). take k x ++ n.id ∷ drop (k + 1) x) (sym o.own);
    count = omega (arith, g.count, o.count);
    kept = g.others n.id (distinct_remove L R n.id o.distinct).0;
    others = λ i out. g.others i (out_of i L R (parts i out).0 (out_cons i n.id R (parts i out).1).1);
    spare = g.spare;
    as_many = g.as_many;
  }

  -- one before it
  module _ (k : ℕ) (low : k < n.left.count) (u : Store) (m : RunTree) (id : ℕ) (g : CutsOut s u n.left k m id) where
    same : (i : ℕ) → among i (n.id ∷ R) ≡ true → at u i ≡ at s i
    same i q = g.others i (distinct_apart_back L (n.id ∷ R) o.distinct i q)

    pub right_tree : IsTree u n.right
    right_tree = tree_kept s u n.right o.right (λ i q. same i (among_later i n.id R q))

    right_owned : owned u n.right ≡ R
    right_owned = owned_kept s u n.right o.right (λ i q. same i (among_later i n.id R q))

    in_l : k < length L
    in_l = omega (arith, low, length-owned s n.left o.left)

    ids : owned u m ++ n.id ∷ owned u n.right ≡ take k (owned s h) ++ drop (k + 1) (owned s h)
    ids = ap (λ (x : List ℕ). x ++ n.id ∷ owned u n.right) g.own
        ∙ ap (λ (x : List ℕ). (take k L ++ drop (k + 1) L) ++ n.id ∷ x) right_owned
        ∙ gone_left k L n.id R in_l
        ∙ ap (λ (x : List ℕ). take k x ++ drop (k + 1) x) (sym o.own)

    pub was_before : owned s h ≡ take k (owned s h) ++ id ∷ drop (k + 1) (owned s h)
    was_before = o.own ∙ was_left k L n.id id R in_l g.was ∙ ap (λ (x : List ℕ). take k x ++ id ∷ drop (k + 1) x) (sym o.own)

    less_distinct : Distinct (take k (owned s h) ++ drop (k + 1) (owned s h))
    less_distinct =
        let P : List ℕ → Type 0 = Distinct in
        (distinct_remove (take k (owned s h)) (drop (k + 1) (owned s h)) id (subst P was_before (subst P (sym o.own) o.distinct))).1

    pub up_distinct : Distinct (owned u m ++ n.id ∷ owned u n.right)
    up_distinct = let P : List ℕ → Type 0 = Distinct in subst P (sym ids) less_distinct

    pub up_kept : at u n.id ≡ at s n.id
    up_kept = same n.id (among_first n.id R)

    pub up_live : IsSome (at u n.id)
    up_live = rw up_kept o.live

    in_left_part : among id L ≡ true
    in_left_part = ap (among id) g.was ∙ in_middle (take k L) id (drop (k + 1) L)

    pub other_id : id ≢ n.id
    other_id = not_middle L n.id R o.distinct id (in_left id L R in_left_part)

    pub up_are : runs u m ++ n.run ∷ runs u n.right ≡ take k (runs s h) ++ drop (k + 1) (runs s h)
    up_are = ap (λ (x : List Run). runs u m ++ n.run ∷ x) (runs_kept s u n.right o.right (λ i q. same i (among_later i n.id R q)))
        ∙ ap (λ (x : List Run). x ++ n.run ∷ runs s n.right) g.are
        ∙ gone_left k (runs s n.left) n.run (runs s n.right) (omega (arith, low, length-tree s n.left o.left))
        ∙ ap (λ (x : List Run). take k x ++ drop (k + 1) x) (sym o.are)

    pub cut_before : (t : Store) (r : RunTree) → Joins u t m n.id n.run n.right r → CutsOut s t h k r id
    cut_before t r j = record {
      tree = j.tree;
      are = j.are ∙ up_are;
      own = j.own ∙ ids;
      was = was_before;
      count = omega (arith, j.count, g.count, o.count);
      kept = j.others id (out_of_cons id n.id [] other_id refl) ∙ g.kept;
      others = λ i out. j.others i (not_top i out) ∙ g.others i (parts i out).0;
      spare = j.spare ∙ g.spare;
      as_many = j.as_many ∙ g.as_many;
    }

  -- one after it
  module _ (k k' : ℕ) (high : n.left.count < k) (less : k' ≡ k - n.left.count - 1) (u : Store) (m : RunTree) (id : ℕ) (g : CutsOut s u n.right k' m id) where
    same' : (i : ℕ) → among i L ≡ true → at u i ≡ at s i
    same' i q = g.others i (out_cons i n.id R (distinct_apart L (n.id ∷ R) o.distinct i q)).1

    pub left_tree : IsTree u n.left
    left_tree = tree_kept s u n.left o.left same'

    left_owned : owned u n.left ≡ L
    left_owned = owned_kept s u n.left o.left same'

    at_ids : k ≡ length L + 1 + k'
    at_ids = omega (arith, high, less, length-owned s n.left o.left)

    ids' : owned u n.left ++ n.id ∷ owned u m ≡ take k (owned s h) ++ drop (k + 1) (owned s h)
    ids' = ap (λ (x : List ℕ). x ++ n.id ∷ owned u m) left_owned
        ∙ ap (λ (x : List ℕ). L ++ n.id ∷ x) g.own
        ∙ gone_right k k' L n.id R at_ids
        ∙ ap (λ (x : List ℕ). take k x ++ drop (k + 1) x) (sym o.own)

    pub was_behind : owned s h ≡ take k (owned s h) ++ id ∷ drop (k + 1) (owned s h)
    was_behind = o.own ∙ was_right k k' L n.id id R at_ids g.was ∙ ap (λ (x : List ℕ). take k x ++ id ∷ drop (k + 1) x) (sym o.own)

    less_distinct' : Distinct (take k (owned s h) ++ drop (k + 1) (owned s h))
    less_distinct' =
        let P : List ℕ → Type 0 = Distinct in
        (distinct_remove (take k (owned s h)) (drop (k + 1) (owned s h)) id (subst P was_behind (subst P (sym o.own) o.distinct))).1

    pub up_distinct' : Distinct (owned u n.left ++ n.id ∷ owned u m)
    up_distinct' = let P : List ℕ → Type 0 = Distinct in subst P (sym ids') less_distinct'

    pub up_kept' : at u n.id ≡ at s n.id
    up_kept' = g.others n.id (distinct_right L (n.id ∷ R) o.distinct).0

    pub up_live' : IsSome (at u n.id)
    up_live' = rw up_kept' o.live

    in_right_part : among id R ≡ true
    in_right_part = ap (among id) g.was ∙ in_middle (take k' R) id (drop (k' + 1) R)

    pub other_id' : id ≢ n.id
    other_id' = not_middle L n.id R o.distinct id (in_right id L R in_right_part)

    pub up_are' : runs u n.left ++ n.run ∷ runs u m ≡ take k (runs s h) ++ drop (k + 1) (runs s h)
    up_are' = ap (λ (x : List Run). x ++ n.run ∷ runs u m) (runs_kept s u n.left o.left same')
        ∙ ap (λ (x : List Run). runs s n.left ++ n.run ∷ x) g.are
        ∙ gone_right k k' (runs s n.left) n.run (runs s n.right) (omega (arith, high, less, length-tree s n.left o.left))
        ∙ ap (λ (x : List Run). take k x ++ drop (k + 1) x) (sym o.are)

    pub cut_behind : (t : Store) (r : RunTree) → Joins u t n.left n.id n.run m r → CutsOut s t h k r id
    cut_behind t r j = record {
      tree = j.tree;
      are = j.are ∙ up_are';
      own = j.own ∙ ids';
      was = was_behind;
      count = omega (arith, j.count, g.count, o.count);
      kept = j.others id (out_of_cons id n.id [] other_id' refl) ∙ g.kept;
      others = λ i out. j.others i (not_top i out) ∙ g.others i (out_cons i n.id R (parts i out).1).1;
      spare = j.spare ∙ g.spare;
      as_many = j.as_many ∙ g.as_many;
    }

-- the whole call: the element becomes spare

module _ (s u : Store) (h r : RunTree) (k id : ℕ) (tree : IsTree s h) (g : CutsOut s u h k r id) where
  abbrev rest : List ℕ
  rest = take k (owned s h) ++ drop (k + 1) (owned s h)

  was_distinct : Distinct (take k (owned s h) ++ id ∷ drop (k + 1) (owned s h))
  was_distinct = let P : List ℕ → Type 0 = Distinct in subst P g.was (owned_distinct s h tree)

  pub cut_live : IsSome (at u id)
  cut_live =
      let l : IsSome (at s id) = owned_live s h tree id (ap (among id) g.was ∙ in_middle (take k (owned s h)) id (drop (k + 1) (owned s h))) in
      rw g.kept l

  module _ (t : Store) (up : Updates u t id None) (more : t.spare ≡ u.spare + 1) where
    given : (i : ℕ) → among i (owned u r) ≡ true → at t i ≡ at u i
    given i m = up.others i (not_middle (take k (owned s h)) id (drop (k + 1) (owned s h)) was_distinct i (sym (ap (among i) g.own) ∙ m))

    pub rest_tree : IsTree t r
    rest_tree = tree_kept u t r g.tree given

    pub rest_runs : runs t r ≡ take k (runs s h) ++ drop (k + 1) (runs s h)
    rest_runs = runs_kept u t r g.tree given ∙ g.are

    rest_ids : owned t r ≡ rest
    rest_ids = owned_kept u t r g.tree given ∙ g.own

    pub rest_leaves : Leaves s t (owned s h) (owned t r)
    rest_leaves =
        let Q : List ℕ → Type 0 = λ x. Leaves s t (owned s h) x in
        let R' : List ℕ → Type 0 = λ x. Leaves s t x rest in
        subst Q (sym rest_ids) (subst R' (sym g.was) (record {
          others = λ i p q. (let a = out_parts i (take k (owned s h)) (id ∷ drop (k + 1) (owned s h)) p in up.others i (out_cons i id (drop (k + 1) (owned s h)) a.1).0 ∙ g.others i (ap (among i) g.was ∙ p));
          gained = λ i p q. absurd (new i p q);
          lost = λ i p q. lose i p q;
          spare = omega (arith, g.spare, more, length-append (take k (owned s h)) (id ∷ drop (k + 1) (owned s h)), length-append (take k (owned s h)) (drop (k + 1) (owned s h)));
          as_many = up.as_many ∙ g.as_many;
        })) where
          new : (i : ℕ) → among i (take k (owned s h) ++ id ∷ drop (k + 1) (owned s h)) ≡ false → among i rest ≡ true → ⊥
          new i p q =
              let a = out_parts i (take k (owned s h)) (id ∷ drop (k + 1) (owned s h)) p in
              not_both (among i rest) q (out_of i (take k (owned s h)) (drop (k + 1) (owned s h)) a.0 (out_cons i id (drop (k + 1) (owned s h)) a.1).1)

          lose : (i : ℕ) → among i (take k (owned s h) ++ id ∷ drop (k + 1) (owned s h)) ≡ true → among i rest ≡ false → at t i ≡ None
          lose i p q = elim (eqb_tells i id) [
            | inl e ↦ ap (at t) e.1 ∙ up.changed
            | inr e ↦ (let a = out_parts i (take k (owned s h)) (drop (k + 1) (owned s h)) q in
                absurd (not_both (among i (take k (owned s h) ++ id ∷ drop (k + 1) (owned s h))) p (out_of i (take k (owned s h)) (id ∷ drop (k + 1) (owned s h)) a.0 (out_of_cons i id (drop (k + 1) (owned s h)) e.1 a.1))))
          ]
