-- Trees of elements: what a node opens to, what is joined, and that a tree stays if its elements are as they were.
use Rattle.std.proofs.Common.{◌≡◌, ℕ, ◌<◌, ◌≤◌, true, List, [], ◌∷◌, ◌++◌, length, drop, get_or, Some, refl, sym, ap, ◌∙◌, arith, IsSome, subst, inl, inr, length-append}
use Rattle.std.specs.Prelude.{map}
use Rattle.std.proofs.lemmas.Bool.Decides.{eqb_tells}
use Rattle.vsm_elements.specs.declared.element.Element.{Element}
use Rattle.vsm_elements.specs.Store.{Store, at, among, Distinct, Updates}
use Rattle.vsm_elements.proofs.StoreLemmas.{length-distinct, among_cons}
use Rattle.vsm_elements.proofs.ChainCalls.{element_is, some_of}
use Rattle.row_table.specs.declared.item.Item.{Item}
use Rattle.row_table.specs.declared.tree.ItemTree.{ItemTree}
use Rattle.row_table.specs.declared.shape.Node.{Node}
use Rattle.row_table.specs.Shape.{Shape, leaf, node, items_in, ids_in, top, written, grown, limit, IsTreeOf}
use Rattle.row_table.specs.Trees.{items, owned, count, IsTree, Opens, Joins}
use Rattle.row_table.proofs.Lists.{in_parts, in_left, in_right, out_cons, distinct_left, distinct_right, not_middle}
use Rattle.row_table.proofs.ShapeLemmas.{size_node, Held-same, live_in, read_off, length-items, id_of, ids_are}

-- from a shape

pub is_tree : (s : Store) (h : ItemTree) (x : Shape) → IsTreeOf s h.root x → IsTree s h
unfolding IsTree
is_tree s h x t = let P : Shape → Type 0 = IsTreeOf s h.root in subst P (sym (read_off s h.root x t)) t

pub items_are : (s : Store) (h : ItemTree) (x : Shape) → IsTreeOf s h.root x → items s h ≡ items_in x
unfolding items
items_are s h x t = ap items_in (read_off s h.root x t)

pub owned_are : (s : Store) (h : ItemTree) (x : Shape) → IsTreeOf s h.root x → owned s h ≡ ids_in x
unfolding owned
owned_are s h x t = ap ids_in (read_off s h.root x t)

-- what a tree says of itself

pub owned_live : (s : Store) (h : ItemTree) → IsTree s h → (i : ℕ) → among i (owned s h) ≡ true → IsSome (at s i)
unfolding owned IsTree
owned_live s h t = live_in s (grown s limit h.root) t.held

pub owned_distinct : (s : Store) (h : ItemTree) → IsTree s h → Distinct (owned s h)
unfolding owned IsTree
owned_distinct s h t = t.distinct

pub owned_ids : (s : Store) (h : ItemTree) → owned s h ≡ map id_of (items s h)
unfolding owned items
owned_ids s h = ids_are (grown s limit h.root)

pub length-tree : (s : Store) (h : ItemTree) → length (items s h) ≡ count s h
unfolding items owned
length-tree s h = length-items (grown s limit h.root)

pub small_tree : (s : Store) (h : ItemTree) → IsTree s h → count s h ≤ 4294967040
unfolding owned IsTree limit
small_tree s h t = t.small

-- a tree whose elements are as they were

same_tree : (s t : Store) (h : ItemTree) → IsTree s h → ((i : ℕ) → among i (owned s h) ≡ true → at t i ≡ at s i) → IsTreeOf t h.root (grown s limit h.root)
unfolding owned IsTree
same_tree s t h x same = record { root = x.root; held = Held-same s t (grown s limit h.root) x.held same; distinct = x.distinct; small = x.small }

pub tree_kept : (s t : Store) (h : ItemTree) → IsTree s h → ((i : ℕ) → among i (owned s h) ≡ true → at t i ≡ at s i) → IsTree t h
tree_kept s t h x same = is_tree t h (grown s limit h.root) (same_tree s t h x same)

pub items_kept : (s t : Store) (h : ItemTree) → IsTree s h → ((i : ℕ) → among i (owned s h) ≡ true → at t i ≡ at s i) → items t h ≡ items s h
unfolding items
items_kept s t h x same = items_are t h (grown s limit h.root) (same_tree s t h x same)

pub owned_kept : (s t : Store) (h : ItemTree) → IsTree s h → ((i : ℕ) → among i (owned s h) ≡ true → at t i ≡ at s i) → owned t h ≡ owned s h
unfolding owned
owned_kept s t h x same = owned_are t h (grown s limit h.root) (same_tree s t h x same)

-- the tree without items

none_held : (s : Store) → IsTreeOf s 0 leaf
none_held s = record { root = refl; held = tt; distinct = tt; small = omega arith }

pub empty_tree : (s : Store) → IsTree s (record { root = 0 })
empty_tree s = is_tree s (record { root = 0 }) leaf (none_held s)

pub empty_items : (s : Store) → items s (record { root = 0 }) ≡ []
empty_items s = items_are s (record { root = 0 }) leaf (none_held s)

pub empty_owned : (s : Store) → owned s (record { root = 0 }) ≡ []
empty_owned s = owned_are s (record { root = 0 }) leaf (none_held s)

-- a root of 0

pub no_items : (s : Store) (h : ItemTree) → h.root ≡ 0 → items s h ≡ []
no_items s h e = ap (λ (r : ℕ). items s (record { root = r })) e ∙ empty_items s

pub none_owned : (s : Store) (h : ItemTree) → h.root ≡ 0 → owned s h ≡ []
none_owned s h e = ap (λ (r : ℕ). owned s (record { root = r })) e ∙ empty_owned s

-- the node at the top

abbrev pub opened : ItemTree → Element → Node
opened h e = record {
  left = record { root = e.next };
  item = record { id = h.root; words = drop 1 e.words };
  right = record { root = get_or e.words 0 0 };
}

top_is : (s : Store) (h : ItemTree) (l : Shape) (id : ℕ) (w : List ℕ) (q : Shape) (e : Element) → IsTreeOf s h.root (node l id w q) → at s h.root ≡ Some e → e ≡ written l w q
top_is s h l id w q e x a = sym (element_is s h.root e a) ∙ element_is s h.root (written l w q) (ap (at s) x.root ∙ x.held.1)

opens_node : (s : Store) (h : ItemTree) (l : Shape) (id : ℕ) (w : List ℕ) (q : Shape) → IsTreeOf s h.root (node l id w q) → Opens s h (opened h (written l w q))
opens_node s h l id w q x =
    let hl : ItemTree = record { root = top l } in
    let hq : ItemTree = record { root = top q } in
    let tl : IsTreeOf s (top l) l = record { root = refl; held = x.held.0; distinct = distinct_left (ids_in l) (id ∷ ids_in q) x.distinct; small = omega (arith, x.small, size_node l id w q) } in
    let tq : IsTreeOf s (top q) q = record { root = refl; held = x.held.2; distinct = (distinct_right (ids_in l) (id ∷ ids_in q) x.distinct).1; small = omega (arith, x.small, size_node l id w q) } in
    let el : owned s hl ≡ ids_in l = owned_are s hl l tl in
    let eq : owned s hq ≡ ids_in q = owned_are s hq q tq in
    let rl : items s hl ≡ items_in l = items_are s hl l tl in
    let rq : items s hq ≡ items_in q = items_are s hq q tq in
    let ei : id ≡ h.root = sym x.root in
    let ids : ids_in l ++ id ∷ ids_in q ≡ owned s hl ++ h.root ∷ owned s hq = cc in
    let own : owned s h ≡ owned s hl ++ h.root ∷ owned s hq = owned_are s h (node l id w q) x ∙ ids in
    let P : List ℕ → Type 0 = Distinct in
    let Q : ℕ → Type 0 = λ i. IsSome (at s i) in
    record {
      left = is_tree s hl l tl;
      right = is_tree s hq q tq;
      are = items_are s h (node l id w q) x ∙ cc;
      own = own;
      root = refl;
      count = omega (arith, ap length own, length-append (owned s hl) (h.root ∷ owned s hq));
      distinct = subst P ids x.distinct;
      live = subst Q ei (some_of s id (written l w q) x.held.1);
    }

pub opens : (s : Store) (h : ItemTree) (e : Element) → IsTree s h → 0 < h.root → at s h.root ≡ Some e → Opens s h (opened h e)
unfolding IsTree
opens s h e x some a = go (grown s limit h.root) x where
  go : (y : Shape) → IsTreeOf s h.root y → Opens s h (opened h e)
  go leaf t = absurd (omega (arith, t.root, some))
  go (node l id w q) t = let P : Element → Type 0 = λ z. Opens s h (opened h z) in subst P (sym (top_is s h l id w q e t a)) (opens_node s h l id w q t)

pub top_live : (s : Store) (h : ItemTree) → IsTree s h → 0 < h.root → IsSome (at s h.root)
unfolding IsTree
top_live s h x some = go (grown s limit h.root) x where
  go : (y : Shape) → IsTreeOf s h.root y → IsSome (at s h.root)
  go leaf t = absurd (omega (arith, t.root, some))
  go (node l id w q) t = let Q : ℕ → Type 0 = λ i. IsSome (at s i) in subst Q (sym t.root) (some_of s id (written l w q) t.held.1)

-- at most as many different live ids exist as there can be
pub room_for : (s : Store) (left : ItemTree) (id : ℕ) (right : ItemTree) → IsTree s left → IsTree s right → Distinct (owned s left ++ id ∷ owned s right) → IsSome (at s id)
    → ((i : ℕ) → IsSome (at s i) → (0 < i) × (i ≤ 4294967040)) → length (owned s left ++ id ∷ owned s right) ≤ 4294967040
room_for s left id right tl tq distinct live range =
    length-distinct 4294967040 (owned s left ++ id ∷ owned s right) distinct (λ i m. range i (here i m)) where
      here : (i : ℕ) → among i (owned s left ++ id ∷ owned s right) ≡ true → IsSome (at s i)
      here i m = elim (in_parts i (owned s left) (id ∷ owned s right) m) [
        | inl k ↦ owned_live s left tl i k
        | inr k ↦ elim (eqb_tells i id) [
          | inl p ↦ (let Q : ℕ → Type 0 = λ j. IsSome (at s j) in subst Q (sym p.1) live)
          | inr p ↦ owned_live s right tq i (sym (among_cons i id (owned s right) p.1) ∙ k)
        ]
      ]

-- an element becomes a node
module _ (s t : Store) (left : ItemTree) (item : Item) (right : ItemTree)
    (tl : IsTree s left) (tq : IsTree s right) (distinct : Distinct (owned s left ++ item.id ∷ owned s right)) (live : IsSome (at s item.id)) where
  pub joins : (e : Element) (h : ItemTree) → e ≡ record { next = left.root; words = right.root ∷ item.words }
      → ((i : ℕ) → IsSome (at s i) → (0 < i) × (i ≤ 4294967040))
      → Updates s t item.id (Some e) → t.spare ≡ s.spare
      → h.root ≡ item.id → Joins s t left item right h
  unfolding items owned IsTree limit
  joins e h ee range up spare root =
      let l : Shape = grown s limit left.root in
      let q : Shape = grown s limit right.root in
      let a : left.root ≡ top l = tl.root in
      let b : right.root ≡ top q = tq.root in
      let same : e ≡ written l item.words q = cc in
      let x : IsTreeOf t h.root (node l item.id item.words q) = record {
        root = root;
        held = (
          Held-same s t l tl.held (λ i m. up.others i (not_middle (ids_in l) item.id (ids_in q) distinct i (in_left i (ids_in l) (ids_in q) m))),
          up.changed ∙ ap Some same,
          Held-same s t q tq.held (λ i m. up.others i (not_middle (ids_in l) item.id (ids_in q) distinct i (in_right i (ids_in l) (ids_in q) m))),
        );
        distinct = distinct;
        small = room_for s left item.id right tl tq distinct live range;
      } in
      record {
        tree = is_tree t h (node l item.id item.words q) x;
        are = items_are t h (node l item.id item.words q) x;
        own = owned_are t h (node l item.id item.words q) x;
        root = root;
        others = λ i out. up.others i (out_cons i item.id [] out).0;
        spare = spare;
        as_many = up.as_many;
      }
