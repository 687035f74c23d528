-- A node whose element says in advance what is below it.
use Rattle.std.proofs.Common.{◌≡◌, ◌≢◌, ℕ, zero, suc, ◌+◌, ◌<◌, List, [], ◌∷◌, ◌++◌, false, true, take, drop, get_or, set, Some, Option, refl, sym, ap, ◌∙◌, arith, IsSome, subst, inl, inr}
use Rattle.std.specs.Prelude.{unwrap_or}
use Rattle.std.proofs.lemmas.List.{get_or-take}
use Rattle.std.proofs.lemmas.Bool.Decides.{eqb_tells}
use Rattle.vsm_elements.specs.declared.element.Element.{Element}
use Rattle.vsm_elements.specs.Store.{Store, at, blank, among, Distinct, Updates}
use Rattle.vsm_elements.specs.Chain.{element}
use Rattle.vsm_elements.proofs.ChainLemmas.{not_both}
use Rattle.run_tree.specs.declared.run.Run.{Run}
use Rattle.run_tree.specs.declared.tree.RunTree.{RunTree}
use Rattle.run_tree.specs.declared.shape.RunNode.{RunNode}
use Rattle.run_tree.specs.declared.shape.Rooms.{Rooms}
use Rattle.run_tree.specs.Shape.{Shape, node, grown, runs_in, ids_in}
use Rattle.run_tree.specs.Nodes.{IsLinked, AreRooms, Announces, top_place}
use Rattle.run_tree.specs.Trees.{fitted, runs, owned, IsTree, Opens, Joins, Puts, CutsOut, Writes}
use Rattle.run_tree.proofs.Lists.{in_left, in_right, in_middle, out_cons, not_middle}
use Rattle.run_tree.proofs.TreeLemmas.{tree_kept, joins, top_in}

-- if all elements lead on to the same ones, with the same runs, the same is read

record Leads (a b : Element) : Type 0 where
  pub next : b.next ≡ a.next
  pub right : get_or b.words 0 0 ≡ get_or a.words 0 0
  pub start : get_or b.words 2 0 ≡ get_or a.words 2 0
  pub len : get_or b.words 3 0 ≡ get_or a.words 3 0

grown_same : (s u : Store) → ((i : ℕ) → Leads (element s i) (element u i)) → (n i : ℕ) → grown u n i ≡ grown s n i
grown_same s u same zero i = refl
grown_same s u same (suc n) zero = refl
grown_same s u same (suc n) (suc i) =
    let e : Leads (element s (suc i)) (element u (suc i)) = same (suc i) in
    let l : grown u n ((element u (suc i)).next) ≡ grown s n ((element s (suc i)).next) = ap (grown u n) e.next ∙ grown_same s u same n ((element s (suc i)).next) in
    let q : grown u n (get_or ((element u (suc i)).words) 0 0) ≡ grown s n (get_or ((element s (suc i)).words) 0 0) = ap (grown u n) e.right ∙ grown_same s u same n (get_or ((element s (suc i)).words) 0 0) in
    ap (λ (x : Shape). node x (suc i) (record { start = get_or ((element u (suc i)).words) 2 0; len = get_or ((element u (suc i)).words) 3 0 }) (grown u n (get_or ((element u (suc i)).words) 0 0))) l
    ∙ ap (λ (k : ℕ). node (grown s n ((element s (suc i)).next)) (suc i) (record { start = k; len = get_or ((element u (suc i)).words) 3 0 }) (grown u n (get_or ((element u (suc i)).words) 0 0))) e.start
    ∙ ap (λ (k : ℕ). node (grown s n ((element s (suc i)).next)) (suc i) (record { start = get_or ((element s (suc i)).words) 2 0; len = k }) (grown u n (get_or ((element u (suc i)).words) 0 0))) e.len
    ∙ ap (λ (x : Shape). node (grown s n ((element s (suc i)).next)) (suc i) (record { start = get_or ((element s (suc i)).words) 2 0; len = get_or ((element s (suc i)).words) 3 0 }) x) q

module _ (s u : Store) (h : RunTree) (n : RunNode) (o : Opens s h n) (l : IsLinked s n) (count : ℕ) (rooms : Rooms)
    (up : Updates s u n.id (Some (record { next = n.left.root; words = n.right.root ∷ count ∷ n.run.start ∷ n.run.len ∷ rooms.plain ∷ rooms.paged ∷ rooms.total ∷ [] }))) where
  abbrev says : Element
  says = record { next = n.left.root; words = n.right.root ∷ count ∷ n.run.start ∷ n.run.len ∷ rooms.plain ∷ rooms.paged ∷ rooms.total ∷ [] }

  top_leads : Leads (element s n.id) (element u n.id)
  top_leads =
      let is : element u n.id ≡ says = ap (λ (x : Option Element). unwrap_or x blank) up.changed in
      let was : List ℕ = (element s n.id).words in
      record {
        next = ap (λ (z : Element). z.next) is ∙ sym l.next;
        right = ap (λ (z : Element). get_or z.words 0 0) is ∙ sym (sym (get_or-take 3 was 0 0 (omega arith)) ∙ ap (λ (z : List ℕ). get_or z 0 0) l.front);
        start = ap (λ (z : Element). get_or z.words 2 0) is ∙ sym (sym (get_or-take 3 was 2 0 (omega arith)) ∙ ap (λ (z : List ℕ). get_or z 2 0) l.front);
        len = ap (λ (z : Element). get_or z.words 3 0) is ∙ sym l.len;
      }

  leads : (i : ℕ) → Leads (element s i) (element u i)
  leads i = elim (eqb_tells i n.id) [
    | inl e ↦ (let P : ℕ → Type 0 = λ j. Leads (element s j) (element u j) in subst P (sym e.1) top_leads)
    | inr e ↦ (let is : element u i ≡ element s i = ap (λ (x : Option Element). unwrap_or x blank) (up.others i e.1) in record {
      next = ap (λ (z : Element). z.next) is;
      right = ap (λ (z : Element). get_or z.words 0 0) is;
      start = ap (λ (z : Element). get_or z.words 2 0) is;
      len = ap (λ (z : Element). get_or z.words 3 0) is;
    })
  ]

  runs_same : (g : RunTree) → runs u g ≡ runs s g
  unfolding runs
  runs_same g = ap (λ (x : Shape). fitted g.count (runs_in x)) (grown_same s u leads g.count g.root)

  owned_same : (g : RunTree) → owned u g ≡ owned s g
  unfolding owned
  owned_same g = ap ids_in (grown_same s u leads g.count g.root)

  ids : owned s n.left ++ n.id ∷ owned s n.right ≡ owned u n.left ++ n.id ∷ owned u n.right
  ids = ap (λ (x : List ℕ). x ++ n.id ∷ owned s n.right) (sym (owned_same n.left)) ∙ ap (λ (x : List ℕ). owned u n.left ++ n.id ∷ x) (sym (owned_same n.right))

  still : (i : ℕ) → among i (owned s n.left ++ owned s n.right) ≡ true → at u i ≡ at s i
  still i m = up.others i (not_middle (owned s n.left) n.id (owned s n.right) o.distinct i m)

  still_opens : Opens u h n
  still_opens = record {
    left = tree_kept s u n.left o.left (λ i m. still i (in_left i (owned s n.left) (owned s n.right) m));
    right = tree_kept s u n.right o.right (λ i m. still i (in_right i (owned s n.left) (owned s n.right) m));
    are = runs_same h ∙ o.are ∙ ap (λ (x : List Run). x ++ n.run ∷ runs s n.right) (sym (runs_same n.left)) ∙ ap (λ (x : List Run). runs u n.left ++ n.run ∷ x) (sym (runs_same n.right));
    own = owned_same h ∙ o.own ∙ ids;
    root = o.root;
    count = o.count;
    distinct = (let P : List ℕ → Type 0 = Distinct in subst P ids o.distinct);
    live = rw (up.changed) refl;
  }

  pub announced : u.spare ≡ s.spare → Announces s u h n count rooms
  announced spare = record {
    opens = still_opens;
    are = runs_same h;
    own = owned_same h;
    says = up.changed;
    others = up.others;
    spare = spare;
    as_many = up.as_many;
  }

-- the tree is as announced

pub stands : (u t : Store) (left : RunTree) (id : ℕ) (run : Run) (right h : RunTree) (rooms : Rooms)
    → at u id ≡ Some (record { next = left.root; words = right.root ∷ left.count ∷ run.start ∷ run.len ∷ rooms.plain ∷ rooms.paged ∷ rooms.total ∷ [] }) → at t id ≡ at u id → IsSome (at t id)
    → IsTree t left → IsTree t right → Distinct (owned t left ++ id ∷ owned t right) → AreRooms rooms (runs t left ++ run ∷ runs t right)
    → h.root ≡ id → h.count ≡ left.count + right.count + 1 → Joins t t left id run right h
stands u t left id run right h rooms says kept live tl tq distinct are root count =
    joins t t left id run right tl tq distinct live rooms.plain rooms.paged rooms.total h are.0 are.1 are.2
    (record { changed = kept ∙ says; others = λ i ne. refl; as_many = refl }) refl root count

-- what holds of the tree after that holds of the one before

module _ (s u : Store) (h : RunTree) (n : RunNode) (count : ℕ) (rooms : Rooms) (a : Announces s u h n count rooms) where
  pub other_id : (i : ℕ) → among i (owned s h) ≡ false → i ≢ n.id
  other_id i out e =
      let m : among n.id (owned s h) ≡ true = ap (among n.id) (sym a.own ∙ a.opens.own) ∙ in_middle (owned u n.left) n.id (owned u n.right) in
      not_both (among i (owned s h)) (ap (λ (j : ℕ). among j (owned s h)) e ∙ m) out

  pub still_live : (i : ℕ) → IsSome (at s i) → among i (owned s h) ≡ false → IsSome (at u i)
  still_live i live out = let e : at u i ≡ at s i = a.others i (other_id i out) in rw e live

  pub still_out : (i : ℕ) → among i (owned s h) ≡ false → among i (owned u h) ≡ false
  still_out i out = ap (among i) a.own ∙ out

  -- the trees below have the same tops
  same_place : (g : RunTree) → g.root ≢ n.id → top_place u g ≡ top_place s g
  same_place g ne = ap (λ (x : Option Element). get_or ((unwrap_or x blank).words) 1 0) (a.others g.root ne)

  pub place_left : 0 < n.left.count → top_place u n.left ≡ top_place s n.left
  place_left some =
      let m : among n.left.root (owned u n.left) ≡ true = top_in u n.left a.opens.left some in
      same_place n.left (not_middle (owned u n.left) n.id (owned u n.right) a.opens.distinct n.left.root (in_left n.left.root (owned u n.left) (owned u n.right) m))

  pub place_right : 0 < n.right.count → top_place u n.right ≡ top_place s n.right
  place_right some =
      let m : among n.right.root (owned u n.right) ≡ true = top_in u n.right a.opens.right some in
      same_place n.right (not_middle (owned u n.left) n.id (owned u n.right) a.opens.distinct n.right.root (in_right n.right.root (owned u n.left) (owned u n.right) m))

  pub puts_from : (t : Store) (k id : ℕ) (run : Run) (r : RunTree) → Puts u t h k id run r → Puts s t h k id run r
  puts_from t k id run r g = record {
    tree = g.tree;
    are = g.are ∙ ap (λ (x : List Run). take k x ++ run ∷ drop k x) a.are;
    own = g.own ∙ ap (λ (x : List ℕ). take k x ++ id ∷ drop k x) a.own;
    count = g.count;
    others = λ i out. g.others i (ap (λ (x : List ℕ). among i (id ∷ x)) a.own ∙ out) ∙ a.others i (other_id i (out_cons i id (owned s h) out).1);
    spare = g.spare ∙ a.spare;
    as_many = g.as_many ∙ a.as_many;
  }

  pub cuts_from : (t : Store) (k id : ℕ) (r : RunTree) → id ≢ n.id → CutsOut u t h k r id → CutsOut s t h k r id
  cuts_from t k id r ne g = record {
    tree = g.tree;
    are = g.are ∙ ap (λ (x : List Run). take k x ++ drop (k + 1) x) a.are;
    own = g.own ∙ ap (λ (x : List ℕ). take k x ++ drop (k + 1) x) a.own;
    was = sym a.own ∙ g.was ∙ ap (λ (x : List ℕ). take k x ++ id ∷ drop (k + 1) x) a.own;
    count = g.count;
    kept = g.kept ∙ a.others id ne;
    others = λ i out. g.others i (still_out i out) ∙ a.others i (other_id i out);
    spare = g.spare ∙ a.spare;
    as_many = g.as_many ∙ a.as_many;
  }

  pub writes_from : (t : Store) (k : ℕ) (run : Run) → Writes u t h k run → Writes s t h k run
  writes_from t k run g = record {
    tree = g.tree;
    are = g.are ∙ ap (λ (x : List Run). set x k run) a.are;
    own = g.own ∙ a.own;
    others = λ i out. g.others i (still_out i out) ∙ a.others i (other_id i out);
    spare = g.spare ∙ a.spare;
    as_many = g.as_many ∙ a.as_many;
  }
