-- Trees of elements: what a node opens to, what is joined, and that a tree stays if its elements are as they were.
use Rattle.std.proofs.Common.{◌≡◌, ℕ, zero, suc, ◌+◌, ◌-◌, ◌%◌, ◌^◌, ◌<◌, ◌≤◌, true, false, List, [], ◌∷◌, ◌++◌, length, take, drop, get_or, max, Some, Option, refl, sym, ap, ◌∙◌, arith, IsSome, subst, inl, inr, length-append}
use Rattle.std.specs.Prelude.{unwrap_or}
use Rattle.std.proofs.lemmas.List.{nil_from_length}
use Rattle.std.proofs.lemmas.Bool.Decides.{eqb_tells}
use Rattle.vsm_elements.specs.declared.element.Element.{Element}
use Rattle.vsm_elements.specs.Store.{Store, at, blank, among, Distinct, Updates}
use Rattle.vsm_elements.specs.Words.{with_four}
use Rattle.vsm_elements.specs.Chain.{element}
use Rattle.vsm_elements.proofs.StoreLemmas.{length-distinct, among_cons}
use Rattle.vsm_elements.proofs.ChainCalls.{element_is, some_of}
use Rattle.run_tree.specs.declared.run.Run.{Run}
use Rattle.run_tree.specs.declared.tree.RunTree.{RunTree}
use Rattle.run_tree.specs.declared.shape.RunNode.{RunNode}
use Rattle.run_tree.specs.declared.shape.Rooms.{Rooms}
use Rattle.run_tree.specs.Shape.{Shape, leaf, node, runs_in, ids_in, size, top, written, grown, longest, plain, paged, total, IsTreeOf}
use Rattle.run_tree.specs.Nodes.{IsLinked, AreRooms}
use Rattle.run_tree.specs.Trees.{fitted, runs, owned, IsTree, Opens, Joins}
use Rattle.run_tree.proofs.Lists.{in_parts, in_middle, in_left, in_right, out_cons, distinct_left, distinct_right, not_middle}
use Rattle.run_tree.proofs.ShapeLemmas.{longest_node, total_node, size_node, Held-same, live_in, read_off, length-runs}

-- from a shape

pub is_tree : (s : Store) (h : RunTree) (x : Shape) → IsTreeOf s h x → IsTree s h
unfolding IsTree
is_tree s h x t = let P : Shape → Type 0 = IsTreeOf s h in subst P (sym (read_off s h x t)) t

fitted_all : (rs : List Run) (n : ℕ) → n ≡ length rs → fitted n rs ≡ rs
fitted_all [] zero e = refl
fitted_all [] (suc n) e = absurd (omega (arith, e))
fitted_all (r ∷ rs) zero e = absurd (omega (arith, e))
fitted_all (r ∷ rs) (suc n) e = ap (λ (x : List Run). r ∷ x) (fitted_all rs n (omega (arith, e)))

length-fitted : (n : ℕ) (rs : List Run) → length (fitted n rs) ≡ n
length-fitted zero rs = refl
length-fitted (suc n) [] = ap suc (length-fitted n [])
length-fitted (suc n) (r ∷ rs) = ap suc (length-fitted n rs)

pub runs_are : (s : Store) (h : RunTree) (x : Shape) → IsTreeOf s h x → runs s h ≡ runs_in x
unfolding runs
runs_are s h x t = ap (λ (y : Shape). fitted h.count (runs_in y)) (read_off s h x t) ∙ fitted_all (runs_in x) h.count (t.count ∙ sym (length-runs x))

-- in any elements, as many as the head counts
pub length-any : (s : Store) (h : RunTree) → length (runs s h) ≡ h.count
unfolding runs
length-any s h = length-fitted h.count (runs_in (grown s h.count h.root))

read_runs : (s : Store) (h : RunTree) → IsTree s h → runs s h ≡ runs_in (grown s h.count h.root)
unfolding IsTree
read_runs s h t = runs_are s h (grown s h.count h.root) t

pub owned_are : (s : Store) (h : RunTree) (x : Shape) → IsTreeOf s h x → owned s h ≡ ids_in x
unfolding owned
owned_are s h x t = ap ids_in (read_off s h x t)

-- what a tree says of itself

pub owned_live : (s : Store) (h : RunTree) → IsTree s h → (i : ℕ) → among i (owned s h) ≡ true → IsSome (at s i)
unfolding owned IsTree
owned_live s h t = live_in s (grown s h.count h.root) t.held

pub owned_distinct : (s : Store) (h : RunTree) → IsTree s h → Distinct (owned s h)
unfolding owned IsTree
owned_distinct s h t = t.distinct

pub length-owned : (s : Store) (h : RunTree) → IsTree s h → length (owned s h) ≡ h.count
unfolding owned IsTree
length-owned s h t = sym t.count

pub length-tree : (s : Store) (h : RunTree) → IsTree s h → length (runs s h) ≡ h.count
length-tree s h t = length-any s h

-- a tree whose elements are as they were

same_tree : (s t : Store) (h : RunTree) → IsTree s h → ((i : ℕ) → among i (owned s h) ≡ true → at t i ≡ at s i) → IsTreeOf t h (grown s h.count h.root)
unfolding owned IsTree
same_tree s t h x same = record { root = x.root; count = x.count; held = Held-same s t (grown s h.count h.root) x.held same; distinct = x.distinct }

pub tree_kept : (s t : Store) (h : RunTree) → IsTree s h → ((i : ℕ) → among i (owned s h) ≡ true → at t i ≡ at s i) → IsTree t h
tree_kept s t h x same = is_tree t h (grown s h.count h.root) (same_tree s t h x same)

pub runs_kept : (s t : Store) (h : RunTree) → IsTree s h → ((i : ℕ) → among i (owned s h) ≡ true → at t i ≡ at s i) → runs t h ≡ runs s h
runs_kept s t h x same = runs_are t h (grown s h.count h.root) (same_tree s t h x same) ∙ sym (read_runs s h x)

pub owned_kept : (s t : Store) (h : RunTree) → IsTree s h → ((i : ℕ) → among i (owned s h) ≡ true → at t i ≡ at s i) → owned t h ≡ owned s h
unfolding owned
owned_kept s t h x same = owned_are t h (grown s h.count h.root) (same_tree s t h x same)

-- the tree without runs

none_held : (s : Store) → IsTreeOf s (record { root = 0; count = 0 }) leaf
none_held s = record { root = refl; count = refl; held = tt; distinct = tt }

pub empty_tree : (s : Store) → IsTree s (record { root = 0; count = 0 })
empty_tree s = is_tree s (record { root = 0; count = 0 }) leaf (none_held s)

pub empty_runs : (s : Store) → runs s (record { root = 0; count = 0 }) ≡ []
empty_runs s = runs_are s (record { root = 0; count = 0 }) leaf (none_held s)

pub empty_owned : (s : Store) → owned s (record { root = 0; count = 0 }) ≡ []
empty_owned s = owned_are s (record { root = 0; count = 0 }) leaf (none_held s)

-- the node at the top

abbrev pub opened : RunTree → Element → RunNode
opened h e = record {
  left = record { root = e.next; count = get_or e.words 1 0 };
  id = h.root;
  run = record { start = get_or e.words 2 0; len = get_or e.words 3 0 };
  right = record { root = get_or e.words 0 0; count = h.count - 1 - get_or e.words 1 0 };
  rooms = record { plain = get_or e.words 4 0; paged = get_or e.words 5 0; total = get_or e.words 6 0 };
}

top_is : (s : Store) (h : RunTree) (l : Shape) (id : ℕ) (r : Run) (q : Shape) (e : Element) → IsTreeOf s h (node l id r q) → at s h.root ≡ Some e → e ≡ written l r q
top_is s h l id r q e x a = sym (element_is s h.root e a) ∙ element_is s h.root (written l r q) (ap (at s) x.root ∙ x.held.1)

opens_node : (s : Store) (h : RunTree) (l : Shape) (id : ℕ) (r : Run) (q : Shape) → IsTreeOf s h (node l id r q) → Opens s h (opened h (written l r q))
opens_node s h l id r q x =
    let hl : RunTree = record { root = top l; count = size l } in
    let hq : RunTree = record { root = top q; count = h.count - 1 - size l } in
    let tl : IsTreeOf s hl l = record { root = refl; count = refl; held = x.held.0; distinct = distinct_left (ids_in l) (id ∷ ids_in q) x.distinct } in
    let tq : IsTreeOf s hq q = record { root = refl; count = omega (arith, x.count, size_node l id r q); held = x.held.2; distinct = (distinct_right (ids_in l) (id ∷ ids_in q) x.distinct).1 } in
    let el : owned s hl ≡ ids_in l = owned_are s hl l tl in
    let eq : owned s hq ≡ ids_in q = owned_are s hq q tq in
    let rl : runs s hl ≡ runs_in l = runs_are s hl l tl in
    let rq : runs s hq ≡ runs_in q = runs_are s hq q tq in
    let ei : id ≡ h.root = sym x.root in
    let ids : ids_in l ++ id ∷ ids_in q ≡ owned s hl ++ h.root ∷ owned s hq = cc in
    let P : List ℕ → Type 0 = Distinct in
    let Q : ℕ → Type 0 = λ i. IsSome (at s i) in
    record {
      left = is_tree s hl l tl;
      right = is_tree s hq q tq;
      are = runs_are s h (node l id r q) x ∙ cc;
      own = owned_are s h (node l id r q) x ∙ ids;
      root = refl;
      count = omega (arith, x.count, size_node l id r q);
      distinct = subst P ids x.distinct;
      live = subst Q ei (some_of s id (written l r q) x.held.1);
    }

pub opens : (s : Store) (h : RunTree) (e : Element) → IsTree s h → 0 < h.count → at s h.root ≡ Some e → Opens s h (opened h e)
unfolding IsTree
opens s h e x some a = go (grown s h.count h.root) x where
  go : (y : Shape) → IsTreeOf s h y → Opens s h (opened h e)
  go leaf t = absurd (omega (arith, t.count, some))
  go (node l id r q) t = let P : Element → Type 0 = λ z. Opens s h (opened h z) in subst P (sym (top_is s h l id r q e t a)) (opens_node s h l id r q t)

pub opens_linked : (s : Store) (h : RunTree) (e : Element) → IsTree s h → 0 < h.count → at s h.root ≡ Some e → IsLinked s (opened h e)
unfolding IsTree
opens_linked s h e x some a = go (grown s h.count h.root) x where
  go : (y : Shape) → IsTreeOf s h y → IsLinked s (opened h e)
  go leaf t = absurd (omega (arith, t.count, some))
  go (node l id r q) t =
      let is : element s h.root ≡ e = element_is s h.root e a in
      let w : e ≡ written l r q = top_is s h l id r q e t a in
      let P : Element → Type 0 = λ z. take 3 z.words ≡ get_or z.words 0 0 ∷ get_or z.words 1 0 ∷ get_or z.words 2 0 ∷ [] in
      record {
        next = ap (λ (z : Element). z.next) is;
        front = ap (λ (z : Element). take 3 z.words) is ∙ subst P (sym w) refl;
        len = ap (λ (z : Element). get_or z.words 3 0) is;
        end = ap (λ (z : Element). drop 7 z.words) (is ∙ w);
      }

pub top_live : (s : Store) (h : RunTree) → IsTree s h → 0 < h.count → IsSome (at s h.root)
unfolding IsTree
top_live s h x some = go (grown s h.count h.root) x where
  go : (y : Shape) → IsTreeOf s h y → IsSome (at s h.root)
  go leaf t = absurd (omega (arith, t.count, some))
  go (node l id r q) t = let Q : ℕ → Type 0 = λ i. IsSome (at s i) in subst Q (sym t.root) (some_of s id (written l r q) t.held.1)

pub top_in : (s : Store) (h : RunTree) → IsTree s h → 0 < h.count → among h.root (owned s h) ≡ true
unfolding IsTree
top_in s h x some = go (grown s h.count h.root) x where
  go : (y : Shape) → IsTreeOf s h y → among h.root (owned s h) ≡ true
  go leaf t = absurd (omega (arith, t.count, some))
  go (node l id r q) t = ap (λ (i : ℕ). among i (owned s h)) t.root ∙ ap (among id) (owned_are s h (node l id r q) t) ∙ in_middle (ids_in l) id (ids_in q)

pub left_fits : (s : Store) (h : RunTree) (e : Element) → IsTree s h → 0 < h.count → at s h.root ≡ Some e → get_or e.words 1 0 + 1 ≤ h.count
left_fits s h e x some a = let o : Opens s h (opened h e) = opens s h e x some a in omega (arith, o.count, some)

-- what the top says of the longest runs, and of the numbers of all
pub top_rooms : (s : Store) (h : RunTree) (e : Element) → IsTree s h → 0 < h.count → at s h.root ≡ Some e
    → (get_or e.words 4 0 ≡ longest plain (runs s h)) × (get_or e.words 5 0 ≡ longest paged (runs s h)) × (get_or e.words 6 0 ≡ total (runs s h) % 2 ^ 32)
unfolding IsTree
top_rooms s h e x some a = go (grown s h.count h.root) x where
  go : (y : Shape) → IsTreeOf s h y → (get_or e.words 4 0 ≡ longest plain (runs s h)) × (get_or e.words 5 0 ≡ longest paged (runs s h)) × (get_or e.words 6 0 ≡ total (runs s h) % 2 ^ 32)
  go leaf t = absurd (omega (arith, t.count, some))
  go (node l id r q) t =
      let k : e ≡ written l r q = top_is s h l id r q e t a in
      let f : runs s h ≡ runs_in l ++ r ∷ runs_in q = runs_are s h (node l id r q) t in (
        ap (λ (z : Element). get_or z.words 4 0) k ∙ sym (ap (longest plain) f),
        ap (λ (z : Element). get_or z.words 5 0) k ∙ sym (ap (longest paged) f),
        ap (λ (z : Element). get_or z.words 6 0) k ∙ sym (ap (λ (rs : List Run). total rs % 2 ^ 32) f),
      )

-- an element becomes a node

module _ (s t : Store) (left : RunTree) (id : ℕ) (run : Run) (right : RunTree)
    (tl : IsTree s left) (tq : IsTree s right) (distinct : Distinct (owned s left ++ id ∷ owned s right)) (live : IsSome (at s id)) where
  pub joins : (p g n : ℕ) (h : RunTree) → p ≡ longest plain (runs s left ++ run ∷ runs s right) → g ≡ longest paged (runs s left ++ run ∷ runs s right)
      → n ≡ total (runs s left ++ run ∷ runs s right) % 2 ^ 32
      → Updates s t id (Some (record { next = left.root; words = right.root ∷ left.count ∷ run.start ∷ run.len ∷ p ∷ g ∷ n ∷ [] })) → t.spare ≡ s.spare
      → h.root ≡ id → h.count ≡ left.count + right.count + 1 → Joins s t left id run right h
  unfolding owned IsTree
  joins p g n h ep eg en up spare root count =
      let l : Shape = grown s left.count left.root in
      let q : Shape = grown s right.count right.root in
      let a : left.root ≡ top l = tl.root in
      let b : right.root ≡ top q = tq.root in
      let c : left.count ≡ size l = tl.count in
      let rl : runs s left ≡ runs_in l = read_runs s left tl in
      let rq : runs s right ≡ runs_in q = read_runs s right tq in
      let same : ◌≡◌ {A = Element} (record { next = left.root; words = right.root ∷ left.count ∷ run.start ∷ run.len ∷ p ∷ g ∷ n ∷ [] }) (written l run q) = cc in
      let x : IsTreeOf t h (node l id run q) = record {
        root = root;
        count = count ∙ omega (arith, c, tq.count, size_node l id run q);
        held = (
          Held-same s t l tl.held (λ i m. up.others i (not_middle (ids_in l) id (ids_in q) distinct i (in_left i (ids_in l) (ids_in q) m))),
          up.changed ∙ ap Some same,
          Held-same s t q tq.held (λ i m. up.others i (not_middle (ids_in l) id (ids_in q) distinct i (in_right i (ids_in l) (ids_in q) m))),
        );
        distinct = distinct;
      } in
      record {
        tree = is_tree t h (node l id run q) x;
        are = runs_are t h (node l id run q) x ∙ cc;
        own = owned_are t h (node l id run q) x;
        root = root;
        count = count;
        others = λ i out. up.others i (out_cons i id [] out).0;
        spare = spare;
        as_many = up.as_many;
      }

-- a node gets other trees below it with the same tops

pub linked_kept : (s u : Store) (n : RunNode) → at u n.id ≡ at s n.id → IsLinked s n → IsLinked u n
linked_kept s u n e l =
    let is : element u n.id ≡ element s n.id = ap (λ (o : Option Element). unwrap_or o blank) e in
    record {
      next = ap (λ (z : Element). z.next) is ∙ l.next;
      front = ap (λ (z : Element). take 3 z.words) is ∙ l.front;
      len = ap (λ (z : Element). get_or z.words 3 0) is ∙ l.len;
      end = ap (λ (z : Element). drop 7 z.words) is ∙ l.end;
    }

module _ (before behind over : Rooms) (xs : List Run) (r : Run) (ys : List Run) (b : AreRooms before xs) (c : AreRooms behind ys)
    (p : over.plain ≡ max (max before.plain (plain r)) behind.plain) (g : over.paged ≡ max (max before.paged (paged r)) behind.paged)
    (n : over.total ≡ (before.total + r.len + behind.total) % 2 ^ 32) where
  pub over_rooms : AreRooms over (xs ++ r ∷ ys)
  over_rooms = (
    longest_node plain xs r ys over.plain (omega (arith, p, b.0, c.0)),
    longest_node paged xs r ys over.paged (omega (arith, g, b.1, c.1)),
    total_node xs r ys before.total behind.total over.total b.2 c.2 (sym n),
  )

pub renews : (s t : Store) (n : RunNode) (rooms : Rooms) → IsTree s n.left → IsTree s n.right → Distinct (owned s n.left ++ n.id ∷ owned s n.right) → IsSome (at s n.id) → IsLinked s n
    → AreRooms rooms (runs s n.left ++ n.run ∷ runs s n.right) → Updates s t n.id (Some (with_four (element s n.id) 3 (n.run.len ∷ rooms.plain ∷ rooms.paged ∷ rooms.total ∷ []))) → t.spare ≡ s.spare
    → Joins s t n.left n.id n.run n.right (record { root = n.id; count = n.left.count + n.right.count + 1 })
renews s t n rooms tl tq distinct live l are up spare =
    let four : List ℕ = n.run.len ∷ rooms.plain ∷ rooms.paged ∷ rooms.total ∷ [] in
    let P : Element → Type 0 = λ z. Updates s t n.id (Some z) in
    let same : ◌≡◌ {A = Element} (with_four (element s n.id) 3 four) (record { next = n.left.root; words = n.right.root ∷ n.left.count ∷ n.run.start ∷ n.run.len ∷ rooms.plain ∷ rooms.paged ∷ rooms.total ∷ [] }) =
    ap (λ (z : ℕ). record { next = z; words = take 3 ((element s n.id).words) ++ four ++ drop 7 ((element s n.id).words) }) l.next
    ∙ ap (λ (z : List ℕ). record { next = n.left.root; words = z ++ four ++ drop 7 ((element s n.id).words) }) l.front
    ∙ ap (λ (z : List ℕ). record { next = n.left.root; words = (n.right.root ∷ n.left.count ∷ n.run.start ∷ []) ++ four ++ z }) l.end in
    joins s t n.left n.id n.run n.right tl tq distinct live rooms.plain rooms.paged rooms.total _ are.0 are.1 are.2 (subst P same up) spare refl refl

pub no_runs : (s : Store) (h : RunTree) → IsTree s h → h.count ≡ 0 → runs s h ≡ []
no_runs s h t e = nil_from_length (runs s h) (length-tree s h t ∙ e)

pub none_owned : (s : Store) (h : RunTree) → IsTree s h → h.count ≡ 0 → owned s h ≡ []
none_owned s h t e = nil_from_length (owned s h) (length-owned s h t ∙ e)

-- at most as many different live ids exist as there can be
pub room_for : (s : Store) (left : RunTree) (id : ℕ) (right : RunTree) → IsTree s left → IsTree s right → Distinct (owned s left ++ id ∷ owned s right) → IsSome (at s id)
    → ((i : ℕ) → IsSome (at s i) → (0 < i) × (i ≤ 4294967040)) → left.count + right.count + 1 ≤ 4294967040
room_for s left id right tl tq distinct live range =
    let few : length (owned s left ++ id ∷ owned s right) ≤ 4294967040 = length-distinct 4294967040 (owned s left ++ id ∷ owned s right) distinct (λ i m. range i (here i m)) in
    omega (arith, few, length-append (owned s left) (id ∷ owned s right), length-owned s left tl, length-owned s right tq) where
      here : (i : ℕ) → among i (owned s left ++ id ∷ owned s right) ≡ true → IsSome (at s i)
      here i m = elim (in_parts i (owned s left) (id ∷ owned s right) m) [
        | inl k ↦ owned_live s left tl i k
        | inr k ↦ elim (eqb_tells i id) [
          | inl p ↦ (let Q : ℕ → Type 0 = λ j. IsSome (at s j) in subst Q (sym p.1) live)
          | inr p ↦ owned_live s right tq i (sym (among_cons i id (owned s right) p.1) ∙ k)
        ]
      ]

pub room_for_one : (s : Store) (h : RunTree) (id : ℕ) → IsTree s h → IsSome (at s id) → among id (owned s h) ≡ false
    → ((i : ℕ) → IsSome (at s i) → (0 < i) × (i ≤ 4294967040)) → h.count + 1 ≤ 4294967040
room_for_one s h id tree live out range =
    let few : length (id ∷ owned s h) ≤ 4294967040 = length-distinct 4294967040 (id ∷ owned s h) (out, owned_distinct s h tree) (λ i m. range i (here i m)) in
    omega (arith, few, length-owned s h tree) where
      here : (i : ℕ) → among i (id ∷ owned s h) ≡ true → IsSome (at s i)
      here i m = elim (eqb_tells i id) [
        | inl p ↦ (let Q : ℕ → Type 0 = λ j. IsSome (at s j) in subst Q (sym p.1) live)
        | inr p ↦ owned_live s h tree i (sym (among_cons i id (owned s h) p.1) ∙ m)
      ]
