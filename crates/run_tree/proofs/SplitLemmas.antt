-- One tree that becomes two.
use Rattle.std.proofs.Common.{◌≡◌, ℕ, ◌-◌, ◌<◌, ◌≤◌, true, false, List, [], ◌∷◌, ◌++◌, refl, sym, ap, ◌∙◌, arith, IsSome, subst, append_assoc}
use Rattle.vsm_elements.specs.Store.{Store, at, among, Distinct}
use Rattle.vsm_elements.proofs.StoreLemmas.{among_first, among_later}
use Rattle.run_tree.specs.declared.run.Run.{Run}
use Rattle.run_tree.specs.declared.tree.RunTree.{RunTree}
use Rattle.run_tree.specs.declared.shape.RunNode.{RunNode}
use Rattle.run_tree.specs.Trees.{runs, owned, IsTree, Opens, Joins, Splits}
use Rattle.run_tree.proofs.Lists.{out_parts, out_cons, out_of_cons, distinct_left, distinct_right, distinct_apart, distinct_apart_back}
use Rattle.run_tree.proofs.TreeLemmas.{tree_kept, runs_kept, owned_kept, no_runs, none_owned}

pub split_none : (s : Store) (h : RunTree) (k : ℕ) → IsTree s h → k ≤ h.count → h.count ≡ 0 → Splits s s h k h h
split_none s h k t le e =
    let o : owned s h ≡ [] = none_owned s h t e in
    let r : runs s h ≡ [] = no_runs s h t e in
    record {
      first = t;
      second = t;
      are = r ∙ sym (ap (λ (x : List Run). x ++ x) r);
      own = o ∙ sym (ap (λ (x : List ℕ). x ++ x) o);
      count = omega (arith, le, e);
      rest = omega (arith, e);
      others = λ i out. refl;
      spare = refl;
      as_many = refl;
    }

module _ (s : Store) (h : RunTree) (n : RunNode) (o : Opens s h n) where
  -- the place is in the left part
  module _ (k : ℕ) (u : Store) (a m : RunTree) (g : Splits s u n.left k a m) where
    same : (i : ℕ) → among i (owned s n.right) ≡ true → at u i ≡ at s i
    same i q = g.others i (distinct_apart_back (owned s n.left) (n.id ∷ owned s n.right) o.distinct i (among_later i n.id (owned s n.right) q))

    pub right_tree : IsTree u n.right
    right_tree = tree_kept s u n.right o.right same

    right_owned : owned u n.right ≡ owned s n.right
    right_owned = owned_kept s u n.right o.right same

    ids : owned s n.left ++ n.id ∷ owned s n.right ≡ owned u a ++ (owned u m ++ n.id ∷ owned u n.right)
    ids = ap (λ (x : List ℕ). x ++ n.id ∷ owned s n.right) g.own ∙ ap (λ (x : List ℕ). (owned u a ++ owned u m) ++ n.id ∷ x) (sym right_owned) ∙ append_assoc (owned u a) (owned u m) (n.id ∷ owned u n.right)

    parts : Distinct (owned u a ++ (owned u m ++ n.id ∷ owned u n.right))
    parts = let P : List ℕ → Type 0 = Distinct in subst P ids o.distinct

    pub up_distinct : Distinct (owned u m ++ n.id ∷ owned u n.right)
    up_distinct = distinct_right (owned u a) (owned u m ++ n.id ∷ owned u n.right) parts

    pub up_live : IsSome (at u n.id)
    up_live =
        let e : at u n.id ≡ at s n.id = g.others n.id (distinct_apart_back (owned s n.left) (n.id ∷ owned s n.right) o.distinct n.id (among_first n.id (owned s n.right))) in
        rw e o.live

    pub split_left : (t : Store) (b : RunTree) → Joins u t m n.id n.run n.right b → Splits s t h k a b
    split_left t b j = record {
      first = tree_kept u t a g.first kept;
      second = j.tree;
      are = o.are
          ∙ ap (λ (x : List Run). x ++ n.run ∷ runs s n.right) g.are
          ∙ ap (λ (x : List Run). (runs u a ++ runs u m) ++ n.run ∷ x) (sym (runs_kept s u n.right o.right same))
          ∙ append_assoc (runs u a) (runs u m) (n.run ∷ runs u n.right)
          ∙ ap (λ (x : List Run). runs u a ++ x) (sym j.are)
          ∙ ap (λ (x : List Run). x ++ runs t b) (sym (runs_kept u t a g.first kept));
      own = o.own ∙ ids ∙ ap (λ (x : List ℕ). owned u a ++ x) (sym j.own) ∙ ap (λ (x : List ℕ). x ++ owned t b) (sym (owned_kept u t a g.first kept));
      count = g.count;
      rest = omega (arith, g.rest, j.count, o.count);
      others = λ i out. other i out;
      spare = j.spare ∙ g.spare;
      as_many = j.as_many ∙ g.as_many;
    } where
      kept : (i : ℕ) → among i (owned u a) ≡ true → at t i ≡ at u i
      kept i q = j.others i (out_of_cons i n.id [] (out_cons i n.id (owned u n.right) (out_parts i (owned u m) (n.id ∷ owned u n.right) (distinct_apart (owned u a) (owned u m ++ n.id ∷ owned u n.right) parts i q)).1).0 refl)

      other : (i : ℕ) → among i (owned s h) ≡ false → at t i ≡ at s i
      other i out =
          let p = out_parts i (owned s n.left) (n.id ∷ owned s n.right) (ap (among i) (sym o.own) ∙ out) in
          j.others i (out_of_cons i n.id [] (out_cons i n.id (owned s n.right) p.1).0 refl) ∙ g.others i p.0

  -- the place is in the right part
  module _ (k k' : ℕ) (low : n.left.count < k) (less : k' ≡ k - n.left.count - 1) (u : Store) (m b : RunTree) (g : Splits s u n.right k' m b) where
    same' : (i : ℕ) → among i (owned s n.left) ≡ true → at u i ≡ at s i
    same' i q = g.others i (out_cons i n.id (owned s n.right) (distinct_apart (owned s n.left) (n.id ∷ owned s n.right) o.distinct i q)).1

    pub left_tree : IsTree u n.left
    left_tree = tree_kept s u n.left o.left same'

    left_owned : owned u n.left ≡ owned s n.left
    left_owned = owned_kept s u n.left o.left same'

    ids' : owned s n.left ++ n.id ∷ owned s n.right ≡ (owned u n.left ++ n.id ∷ owned u m) ++ owned u b
    ids' = ap (λ (x : List ℕ). x ++ n.id ∷ owned s n.right) (sym left_owned) ∙ ap (λ (x : List ℕ). owned u n.left ++ n.id ∷ x) g.own ∙ sym (append_assoc (owned u n.left) (n.id ∷ owned u m) (owned u b))

    parts' : Distinct ((owned u n.left ++ n.id ∷ owned u m) ++ owned u b)
    parts' = let P : List ℕ → Type 0 = Distinct in subst P ids' o.distinct

    pub up_distinct' : Distinct (owned u n.left ++ n.id ∷ owned u m)
    up_distinct' = distinct_left (owned u n.left ++ n.id ∷ owned u m) (owned u b) parts'

    pub up_live' : IsSome (at u n.id)
    up_live' =
        let e : at u n.id ≡ at s n.id = g.others n.id (distinct_right (owned s n.left) (n.id ∷ owned s n.right) o.distinct).0 in
        rw e o.live

    pub split_right : (t : Store) (a : RunTree) → Joins u t n.left n.id n.run m a → Splits s t h k a b
    split_right t a j = record {
      first = j.tree;
      second = tree_kept u t b g.second kept;
      are = o.are
          ∙ ap (λ (x : List Run). x ++ n.run ∷ runs s n.right) (sym (runs_kept s u n.left o.left same'))
          ∙ ap (λ (x : List Run). runs u n.left ++ n.run ∷ x) g.are
          ∙ sym (append_assoc (runs u n.left) (n.run ∷ runs u m) (runs u b))
          ∙ ap (λ (x : List Run). x ++ runs u b) (sym j.are)
          ∙ ap (λ (x : List Run). runs t a ++ x) (sym (runs_kept u t b g.second kept));
      own = o.own ∙ ids' ∙ ap (λ (x : List ℕ). x ++ owned u b) (sym j.own) ∙ ap (λ (x : List ℕ). owned t a ++ x) (sym (owned_kept u t b g.second kept));
      count = omega (arith, g.count, j.count, low, less);
      rest = omega (arith, g.rest, j.count, o.count);
      others = λ i out. other i out;
      spare = j.spare ∙ g.spare;
      as_many = j.as_many ∙ g.as_many;
    } where
      kept : (i : ℕ) → among i (owned u b) ≡ true → at t i ≡ at u i
      kept i q = j.others i (out_of_cons i n.id [] (out_cons i n.id (owned u m) (out_parts i (owned u n.left) (n.id ∷ owned u m) (distinct_apart_back (owned u n.left ++ n.id ∷ owned u m) (owned u b) parts' i q)).1).0 refl)

      other : (i : ℕ) → among i (owned s h) ≡ false → at t i ≡ at s i
      other i out =
          let p = out_parts i (owned s n.left) (n.id ∷ owned s n.right) (ap (among i) (sym o.own) ∙ out) in
          let q = out_cons i n.id (owned s n.right) p.1 in
          j.others i (out_of_cons i n.id [] q.0 refl) ∙ g.others i q.1
