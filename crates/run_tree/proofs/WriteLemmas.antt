-- An element whose run is replaced.
use Rattle.std.proofs.Common.{◌≡◌, ℕ, suc, ◌+◌, ◌-◌, ◌<◌, true, false, List, [], ◌∷◌, ◌++◌, length, set, refl, sym, ap, ◌∙◌, arith, IsSome, subst}
use Rattle.std.proofs.lemmas.List.{set-append_left, set-append_right, set_at}
use Rattle.vsm_elements.specs.Store.{Store, at, among, Distinct}
use Rattle.vsm_elements.proofs.StoreLemmas.{among_first, among_later}
use Rattle.run_tree.specs.declared.run.Run.{Run}
use Rattle.run_tree.specs.declared.tree.RunTree.{RunTree}
use Rattle.run_tree.specs.declared.shape.RunNode.{RunNode}
use Rattle.run_tree.specs.declared.shape.Rooms.{Rooms}
use Rattle.run_tree.specs.Nodes.{IsLinked, AreRooms}
use Rattle.run_tree.specs.Trees.{runs, owned, IsTree, Opens, Joins, Writes}
use Rattle.run_tree.proofs.Lists.{out_parts, out_cons, out_of_cons, distinct_right, distinct_apart, distinct_apart_back}
use Rattle.run_tree.proofs.TreeLemmas.{tree_kept, runs_kept, owned_kept, linked_kept, length-tree}

module _ (s : Store) (h : RunTree) (n : RunNode) (o : Opens s h n) (k : ℕ) (run : Run) where
  not_top : (i : ℕ) → among i (owned s h) ≡ false → among i (n.id ∷ []) ≡ false
  not_top i out =
      let p = out_parts i (owned s n.left) (n.id ∷ owned s n.right) (ap (among i) (sym o.own) ∙ out) in
      out_of_cons i n.id [] (out_cons i n.id (owned s n.right) p.1).0 refl

  abbrev head : RunTree
  head = record { root = n.id; count = n.left.count + n.right.count + 1 }

  head_is : head ≡ h
  head_is = ap (λ (i : ℕ). record { root = i; count = n.left.count + n.right.count + 1 }) o.root ∙ ap (λ (i : ℕ). record { root = h.root; count = i }) (sym o.count)

  joined : (u t : Store) (r : Run) → Joins u t n.left n.id r n.right head → Joins u t n.left n.id r n.right h
  joined u t r j = let P : RunTree → Type 0 = Joins u t n.left n.id r n.right in subst P head_is j

  -- at the node
  pub write_here : (t : Store) → k ≡ n.left.count → Joins s t n.left n.id run n.right head → Writes s t h k run
  write_here t e up = let j = joined s t run up in record {
    tree = j.tree;
    are = j.are ∙ sym (ap (λ (x : List Run). set x k run) o.are ∙ set_at (runs s n.left) n.run (runs s n.right) run k (length-tree s n.left o.left ∙ sym e));
    own = j.own ∙ sym o.own;
    others = λ i out. j.others i (not_top i out);
    spare = j.spare;
    as_many = j.as_many;
  }

  -- before it
  module _ (low : k < n.left.count) (u : Store) (g : Writes s u n.left k run) where
    same : (i : ℕ) → among i (owned s n.right) ≡ true → at u i ≡ at s i
    same i q = g.others i (distinct_apart_back (owned s n.left) (n.id ∷ owned s n.right) o.distinct i (among_later i n.id (owned s n.right) q))

    pub right_tree : IsTree u n.right
    right_tree = tree_kept s u n.right o.right same

    ids : owned s n.left ++ n.id ∷ owned s n.right ≡ owned u n.left ++ n.id ∷ owned u n.right
    ids = ap (λ (x : List ℕ). x ++ n.id ∷ owned s n.right) (sym g.own) ∙ ap (λ (x : List ℕ). owned u n.left ++ n.id ∷ x) (sym (owned_kept s u n.right o.right same))

    pub up_distinct : Distinct (owned u n.left ++ n.id ∷ owned u n.right)
    up_distinct = let P : List ℕ → Type 0 = Distinct in subst P ids o.distinct

    pub up_kept : at u n.id ≡ at s n.id
    up_kept = g.others n.id (distinct_apart_back (owned s n.left) (n.id ∷ owned s n.right) o.distinct n.id (among_first n.id (owned s n.right)))

    pub up_live : IsSome (at u n.id)
    up_live = rw up_kept o.live

    pub up_linked : IsLinked s n → IsLinked u n
    up_linked = linked_kept s u n up_kept

    pub up_are : runs u n.left ++ n.run ∷ runs u n.right ≡ set (runs s h) k run
    up_are = ap (λ (x : List Run). runs u n.left ++ n.run ∷ x) (runs_kept s u n.right o.right same)
        ∙ ap (λ (x : List Run). x ++ n.run ∷ runs s n.right) g.are
        ∙ sym (ap (λ (x : List Run). set x k run) o.are ∙ set-append_left (runs s n.left) (n.run ∷ runs s n.right) k run (omega (arith, low, length-tree s n.left o.left)))

    pub write_left : (t : Store) → Joins u t n.left n.id n.run n.right head → Writes s t h k run
    write_left t up = let j = joined u t n.run up in record {
      tree = j.tree;
      are = j.are ∙ up_are;
      own = j.own ∙ sym ids ∙ sym o.own;
      others = λ i out. j.others i (not_top i out) ∙ g.others i (out_parts i (owned s n.left) (n.id ∷ owned s n.right) (ap (among i) (sym o.own) ∙ out)).0;
      spare = j.spare ∙ g.spare;
      as_many = j.as_many ∙ g.as_many;
    }

  -- after it
  module _ (k' : ℕ) (high : n.left.count < k) (less : k' ≡ k - n.left.count - 1) (u : Store) (g : Writes s u n.right k' run) where
    same' : (i : ℕ) → among i (owned s n.left) ≡ true → at u i ≡ at s i
    same' i q = g.others i (out_cons i n.id (owned s n.right) (distinct_apart (owned s n.left) (n.id ∷ owned s n.right) o.distinct i q)).1

    pub left_tree : IsTree u n.left
    left_tree = tree_kept s u n.left o.left same'

    pub left_rooms : (r : Rooms) → AreRooms r (runs s n.left) → AreRooms r (runs u n.left)
    left_rooms r = let P : List Run → Type 0 = AreRooms r in subst P (sym (runs_kept s u n.left o.left same'))

    ids' : owned s n.left ++ n.id ∷ owned s n.right ≡ owned u n.left ++ n.id ∷ owned u n.right
    ids' = ap (λ (x : List ℕ). x ++ n.id ∷ owned s n.right) (sym (owned_kept s u n.left o.left same')) ∙ ap (λ (x : List ℕ). owned u n.left ++ n.id ∷ x) (sym g.own)

    pub up_distinct' : Distinct (owned u n.left ++ n.id ∷ owned u n.right)
    up_distinct' = let P : List ℕ → Type 0 = Distinct in subst P ids' o.distinct

    pub up_kept' : at u n.id ≡ at s n.id
    up_kept' = g.others n.id (distinct_right (owned s n.left) (n.id ∷ owned s n.right) o.distinct).0

    pub up_live' : IsSome (at u n.id)
    up_live' = rw up_kept' o.live

    pub up_linked' : IsLinked s n → IsLinked u n
    up_linked' = linked_kept s u n up_kept'

    set_behind : set (runs s n.left ++ n.run ∷ runs s n.right) k run ≡ runs s n.left ++ n.run ∷ set (runs s n.right) k' run
    set_behind =
        let len : length (runs s n.left) ≡ n.left.count = length-tree s n.left o.left in
        let e : k - n.left.count ≡ suc k' = omega arith in
        set-append_right (runs s n.left) (n.run ∷ runs s n.right) n.left.count k run len (omega arith)
        ∙ ap (λ (i : ℕ). runs s n.left ++ set (n.run ∷ runs s n.right) i run) e

    pub up_are' : runs u n.left ++ n.run ∷ runs u n.right ≡ set (runs s h) k run
    up_are' = ap (λ (x : List Run). x ++ n.run ∷ runs u n.right) (runs_kept s u n.left o.left same')
        ∙ ap (λ (x : List Run). runs s n.left ++ n.run ∷ x) g.are
        ∙ sym (ap (λ (x : List Run). set x k run) o.are ∙ set_behind)

    pub write_right : (t : Store) → Joins u t n.left n.id n.run n.right head → Writes s t h k run
    write_right t up = let j = joined u t n.run up in record {
      tree = j.tree;
      are = j.are ∙ up_are';
      own = j.own ∙ sym ids' ∙ sym o.own;
      others = λ i out. j.others i (not_top i out) ∙ g.others i (out_cons i n.id (owned s n.right) (out_parts i (owned s n.left) (n.id ∷ owned s n.right) (ap (among i) (sym o.own) ∙ out)).1).1;
      spare = j.spare ∙ g.spare;
      as_many = j.as_many ∙ g.as_many;
    }
