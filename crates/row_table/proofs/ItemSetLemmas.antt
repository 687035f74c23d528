-- An item of a tree by its id: what it says, and that it is written.
use Rattle.std.proofs.Common.{◌≡◌, ◌≢◌, ℕ, suc, ◌+◌, ◌≤◌, Bool, true, false, inl, inr, List, [], ◌∷◌, ◌++◌, length, take, drop, get_or, Option, Some, None, refl, sym, ap, ◌∙◌, IsSome, subst, arith, append_assoc}
use Rattle.std.specs.Prelude.{if◌then◌else◌, slice_set, unwrap_or}
use Rattle.std.proofs.lemmas.List.{length-drop, append-nil}
use Rattle.std.proofs.Math.ListN.{drop_of_length-le}
use Rattle.std.proofs.lemmas.Bool.Decides.{eqb_tells}
use Rattle.vsm_elements.specs.declared.element.Element.{Element}
use Rattle.vsm_elements.specs.Store.{Store, at, blank, among, Distinct, Updates}
use Rattle.vsm_elements.specs.Words.{with_word, with_four}
use Rattle.vsm_elements.specs.Chain.{element}
use Rattle.vsm_elements.proofs.StoreLemmas.{among_cons}
use Rattle.vsm_elements.proofs.ChainLemmas.{not_both}
use Rattle.vsm_elements.proofs.ChainCalls.{element_is, some_of}
use Rattle.row_table.specs.declared.item.Item.{Item}
use Rattle.row_table.specs.declared.tree.ItemTree.{ItemTree}
use Rattle.row_table.specs.Items.{item_named}
use Rattle.row_table.specs.Shape.{Shape, leaf, node, items_in, ids_in, top, written, Held, grown, limit, IsTreeOf}
use Rattle.row_table.specs.Trees.{items, owned, words_at, IsTree, IsSet, Writes}
use Rattle.row_table.proofs.Lists.{in_parts, out_parts, out_cons, distinct_left, distinct_right, distinct_apart, distinct_apart_back}
use Rattle.row_table.proofs.ShapeLemmas.{Held-same}
use Rattle.row_table.proofs.TreeLemmas.{is_tree, items_are, owned_are, owned_live}

-- the node of an id holds its element
same_element : (s : Store) (i : ℕ) (e f : Element) → at s i ≡ Some e → at s i ≡ Some f → e ≡ f
same_element s i e f p q = sym (element_is s i e p) ∙ element_is s i f q

named_behind : (i : ℕ) (xs ys : List Item) → item_named i xs ≡ None → item_named i (xs ++ ys) ≡ item_named i ys
named_behind i [] ys h = refl
named_behind i (x ∷ xs) ys h = elim (eqb_tells i x.id) [
  | inl p ↦ absurd (no (sym (ap (λ (b : Bool). if b then Some x else item_named i xs) p.0) ∙ h))
  | inr p ↦ ap (λ (b : Bool). if b then Some x else item_named i (xs ++ ys)) p.0 ∙ named_behind i xs ys (sym (ap (λ (b : Bool). if b then Some x else item_named i xs) p.0) ∙ h)
] where
  no : Some x ≡ None → ⊥
  no e = cc

named_front : (i : ℕ) (xs ys : List Item) (n : Item) → item_named i xs ≡ Some n → item_named i (xs ++ ys) ≡ Some n
named_front i [] ys n h = absurd (no h) where
  no : None ≡ Some n → ⊥
  no e = cc
named_front i (x ∷ xs) ys n h = elim (eqb_tells i x.id) [
  | inl p ↦ ap (λ (b : Bool). if b then Some x else item_named i (xs ++ ys)) p.0 ∙ sym (ap (λ (b : Bool). if b then Some x else item_named i xs) p.0) ∙ h
  | inr p ↦ ap (λ (b : Bool). if b then Some x else item_named i (xs ++ ys)) p.0 ∙ named_front i xs ys n (sym (ap (λ (b : Bool). if b then Some x else item_named i xs) p.0) ∙ h)
]

named_here : (i : ℕ) (x : Item) (ys : List Item) → i ≡ x.id → item_named i (x ∷ ys) ≡ Some x
named_here i x ys e = elim (eqb_tells i x.id) [
  | inl p ↦ ap (λ (b : Bool). if b then Some x else item_named i ys) p.0
  | inr p ↦ absurd (p.1 e)
]

named_later : (i : ℕ) (x : Item) (ys : List Item) → i ≢ x.id → item_named i (x ∷ ys) ≡ item_named i ys
named_later i x ys e = elim (eqb_tells i x.id) [
  | inl p ↦ absurd (e p.1)
  | inr p ↦ ap (λ (b : Bool). if b then Some x else item_named i ys) p.0
]

none_named : (i : ℕ) (x : Shape) → among i (ids_in x) ≡ false → item_named i (items_in x) ≡ None
none_named i leaf h = refl
none_named i (node l id w q) h =
    let p = out_parts i (ids_in l) (id ∷ ids_in q) h in
    let r = out_cons i id (ids_in q) p.1 in
    named_behind i (items_in l) (record { id = id; words = w } ∷ items_in q) (none_named i l p.0) ∙ named_later i (record { id = id; words = w }) (items_in q) r.0 ∙ none_named i q r.1

item_read : (s : Store) (x : Shape) → Held s x → Distinct (ids_in x) → (i : ℕ) → among i (ids_in x) ≡ true → (e : Element) → at s i ≡ Some e
    → item_named i (items_in x) ≡ Some (record { id = i; words = drop 1 e.words })
item_read s leaf h d i m e a = absurd (not_both false m refl)
item_read s (node l id w q) h d i m e a = elim (in_parts i (ids_in l) (id ∷ ids_in q) m) [
  | inl k ↦ named_front i (items_in l) (record { id = id; words = w } ∷ items_in q) _ (item_read s l h.0 (distinct_left (ids_in l) (id ∷ ids_in q) d) i k e a)
  | inr k ↦ named_behind i (items_in l) (record { id = id; words = w } ∷ items_in q) (none_named i l (distinct_apart_back (ids_in l) (id ∷ ids_in q) d i k)) ∙ elim (eqb_tells i id) [
    | inl p ↦ (let same : e ≡ written l w q = same_element s i e (written l w q) a (ap (at s) p.1 ∙ h.1) in
        named_here i (record { id = id; words = w }) (items_in q) p.1
        ∙ ap (λ (z : Element). Some (record { id = id; words = drop 1 z.words })) (sym same)
        ∙ ap (λ (z : ℕ). Some (record { id = z; words = drop 1 e.words })) (sym p.1))
    | inr p ↦ named_later i (record { id = id; words = w }) (items_in q) p.1 ∙ item_read s q h.2 (distinct_right (ids_in l) (id ∷ ids_in q) d).1 i (sym (among_cons i id (ids_in q) p.1) ∙ k) e a
  ]
]

pub got : (s : Store) (h : ItemTree) → IsTree s h → (i : ℕ) → among i (owned s h) ≡ true → (e : Element) → at s i ≡ Some e
    → item_named i (items s h) ≡ Some (record { id = i; words = drop 1 e.words })
unfolding IsTree items owned
got s h t i m e a = item_read s (grown s limit h.root) t.held t.distinct i m e a

-- the shape after the element of a node got other words
record Rewrites (t : Store) (x : Shape) (i : ℕ) (e : Element) (v : List ℕ) : Type 0 where
  shape : Shape
  root : top shape ≡ top x
  ids : ids_in shape ≡ ids_in x
  held : Held t shape
  set : IsSet (items_in x) i v (items_in shape)
  was : set.old.words ≡ drop 1 e.words

rewrites : (s t : Store) (x : Shape) → Held s x → Distinct (ids_in x) → (i : ℕ) → among i (ids_in x) ≡ true → (e : Element) → at s i ≡ Some e
    → (v : List ℕ) → Updates s t i (Some (record { next = e.next; words = get_or e.words 0 0 ∷ v })) → Rewrites t x i e v
rewrites s t leaf h d i m e a v up = absurd (not_both false m refl)
rewrites s t (node l id w q) h d i m e a v up = elim (in_parts i (ids_in l) (id ∷ ids_in q) m) [
  | inl k ↦ (
      let r : Rewrites t l i e v = rewrites s t l h.0 (distinct_left (ids_in l) (id ∷ ids_in q) d) i k e a v up in
      let o = out_cons i id (ids_in q) (distinct_apart (ids_in l) (id ∷ ids_in q) d i k) in
      let f : written l w q ≡ written r.shape w q = ap (λ (z : ℕ). record { next = z; words = top q ∷ w }) (sym r.root) in
      let n : Item = record { id = id; words = w } in
      record {
        shape = node r.shape id w q;
        root = refl;
        ids = ap (λ (z : List ℕ). z ++ id ∷ ids_in q) r.ids;
        held = (r.held, up.others id (λ z. o.0 (sym z)) ∙ h.1 ∙ ap Some f, Held-same s t q h.2 (λ j b. up.others j (λ z. not_both (among j (ids_in q)) b (ap (λ (y : ℕ). among y (ids_in q)) z ∙ o.1))));
        set = record {
          before = r.set.before;
          old = r.set.old;
          behind = r.set.behind ++ n ∷ items_in q;
          named = r.set.named;
          were = ap (λ (z : List Item). z ++ n ∷ items_in q) r.set.were ∙ append_assoc r.set.before (r.set.old ∷ r.set.behind) (n ∷ items_in q);
          are = ap (λ (z : List Item). z ++ n ∷ items_in q) r.set.are ∙ append_assoc r.set.before (record { id = i; words = v } ∷ r.set.behind) (n ∷ items_in q);
        };
        was = r.was;
      })
  | inr k ↦ (
      let ol : among i (ids_in l) ≡ false = distinct_apart_back (ids_in l) (id ∷ ids_in q) d i k in
      let kept : Held t l = Held-same s t l h.0 (λ j b. up.others j (λ z. not_both (among j (ids_in l)) b (ap (λ (y : ℕ). among y (ids_in l)) z ∙ ol))) in
      elim (eqb_tells i id) [
        | inl p ↦ (
            let dq = distinct_right (ids_in l) (id ∷ ids_in q) d in
            let same : e ≡ written l w q = same_element s i e (written l w q) a (ap (at s) p.1 ∙ h.1) in
            let f : ◌≡◌ {A = Element} (record { next = e.next; words = get_or e.words 0 0 ∷ v }) (written l v q) = ap (λ (z : Element). record { next = z.next; words = get_or z.words 0 0 ∷ v }) same in
            record {
              shape = node l id v q;
              root = refl;
              ids = refl;
              held = (kept, ap (at t) (sym p.1) ∙ up.changed ∙ ap Some f, Held-same s t q h.2 (λ j b. up.others j (λ z. not_both (among j (ids_in q)) b (ap (λ (y : ℕ). among y (ids_in q)) (z ∙ p.1) ∙ dq.0))));
              set = record {
                before = items_in l;
                old = record { id = id; words = w };
                behind = items_in q;
                named = sym p.1;
                were = refl;
                are = ap (λ (z : ℕ). items_in l ++ record { id = z; words = v } ∷ items_in q) (sym p.1);
              };
              was = ap (λ (z : Element). drop 1 z.words) (sym same);
            })
        | inr p ↦ (
            let r : Rewrites t q i e v = rewrites s t q h.2 (distinct_right (ids_in l) (id ∷ ids_in q) d).1 i (sym (among_cons i id (ids_in q) p.1) ∙ k) e a v up in
            let f : written l w q ≡ written l w r.shape = ap (λ (z : ℕ). record { next = top l; words = z ∷ w }) (sym r.root) in
            let n : Item = record { id = id; words = w } in
            record {
              shape = node l id w r.shape;
              root = refl;
              ids = ap (λ (z : List ℕ). ids_in l ++ id ∷ z) r.ids;
              held = (kept, up.others id (λ z. p.1 (sym z)) ∙ h.1 ∙ ap Some f, r.held);
              set = record {
                before = items_in l ++ n ∷ r.set.before;
                old = r.set.old;
                behind = r.set.behind;
                named = r.set.named;
                were = ap (λ (z : List Item). items_in l ++ n ∷ z) r.set.were ∙ sym (append_assoc (items_in l) (n ∷ r.set.before) (r.set.old ∷ r.set.behind));
                are = ap (λ (z : List Item). items_in l ++ n ∷ z) r.set.are ∙ sym (append_assoc (items_in l) (n ∷ r.set.before) (record { id = i; words = v } ∷ r.set.behind));
              };
              was = r.was;
            })
      ])
]

pub writes : (s t : Store) (h : ItemTree) → IsTree s h → (i : ℕ) → among i (owned s h) ≡ true → (e : Element) → at s i ≡ Some e
    → (v : List ℕ) (f : Element) → f ≡ record { next = e.next; words = get_or e.words 0 0 ∷ v } → Updates s t i (Some f) → t.spare ≡ s.spare → Writes s t h i v
unfolding IsTree items owned
writes s t h x i m e a v f same up spare =
    let P : Element → Type 0 = λ z. Updates s t i (Some z) in
    let r : Rewrites t (grown s limit h.root) i e v = rewrites s t (grown s limit h.root) x.held x.distinct i m e a v (subst P same up) in
    let D : List ℕ → Type 0 = Distinct in
    let S : List ℕ → Type 0 = λ z. length z ≤ limit in
    let y : IsTreeOf t h.root r.shape = record { root = x.root ∙ sym r.root; held = r.held; distinct = subst D (sym r.ids) x.distinct; small = subst S (sym r.ids) x.small } in
    record {
      tree = is_tree t h r.shape y;
      set = record {
        before = r.set.before;
        old = r.set.old;
        behind = r.set.behind;
        named = r.set.named;
        were = r.set.were;
        are = items_are t h r.shape y ∙ r.set.are;
      };
      was = r.was ∙ ap (λ (z : Element). drop 1 z.words) (sym (element_is s i e a));
      own = owned_are t h r.shape y ∙ r.ids;
      others = λ j out. up.others j (out_cons j i [] out).0;
      spare = spare;
      as_many = up.as_many;
    }

-- the words of a node whose item has another word or others at its end, and what its item has

live_element : (s : Store) (i : ℕ) → IsSome (at s i) → at s i ≡ Some (element s i)
live_element s i = go (at s i) where
  go : (o : Option Element) → IsSome o → o ≡ Some (unwrap_or o blank)
  go None h = cc
  go (Some e) h = refl

whole : (ws : List ℕ) → length ws ≡ 7 → ws ≡ get_or ws 0 0 ∷ drop 1 ws
whole [] h = absurd (omega (arith, h))
whole (x ∷ xs) h = refl

pub six : (ws : List ℕ) → length ws ≡ 7 → length (drop 1 ws) ≡ 6
six ws h = omega (arith, h, length-drop 1 ws)

set_behind : (ws vs : List ℕ) (k v : ℕ) → ws ≡ get_or ws 0 0 ∷ drop 1 ws → drop 1 ws ≡ vs → slice_set ws (1 + k) v ≡ get_or ws 0 0 ∷ slice_set vs k v
set_behind ws vs k v whole e =
    let one : 1 + k ≡ suc k = omega arith in
    ap (λ (z : List ℕ). slice_set z (1 + k) v) whole ∙ ap (λ (i : ℕ). slice_set (get_or ws 0 0 ∷ drop 1 ws) i v) one ∙ ap (λ (z : List ℕ). get_or ws 0 0 ∷ slice_set z k v) e

four_behind : (ws four : List ℕ) → length ws ≡ 7 → take 3 ws ++ four ++ drop 7 ws ≡ get_or ws 0 0 ∷ take 2 (drop 1 ws) ++ four
four_behind ws four h = ap (λ (z : List ℕ). take 3 ws ++ four ++ z) (drop_of_length-le ws {i = 7} (omega (arith, h))) ∙ append-nil (take 3 ws ++ four) ∙ go ws h where
  go : (ws : List ℕ) → length ws ≡ 7 → take 3 ws ++ four ≡ get_or ws 0 0 ∷ take 2 (drop 1 ws) ++ four
  go [] h = absurd (omega (arith, h))
  go (x ∷ xs) h = refl

pub got_behind : (ws : List ℕ) (k : ℕ) → length ws ≡ 7 → get_or ws (1 + k) 0 ≡ get_or (drop 1 ws) k 0
got_behind ws k h =
    let one : 1 + k ≡ suc k = omega arith in
    ap (λ (z : List ℕ). get_or z (1 + k) 0) (whole ws h) ∙ ap (λ (i : ℕ). get_or (get_or ws 0 0 ∷ drop 1 ws) i 0) one

module _ (s t : Store) (h : ItemTree) (tree : IsTree s h) (i : ℕ) (there : among i (owned s h) ≡ true) (seven : length ((element s i).words) ≡ 7) (spare : t.spare ≡ s.spare) where
  here : at s i ≡ Some (element s i)
  here = live_element s i (owned_live s h tree i there)

  pub writes_word : (k v : ℕ) → Updates s t i (Some (with_word (element s i) (1 + k) v)) → Writes s t h i (slice_set (words_at s i) k v)
  writes_word k v up =
      let ws = (element s i).words in
      writes s t h tree i there (element s i) here (slice_set (words_at s i) k v) _
      (ap (λ (w : List ℕ). record { next = (element s i).next; words = w }) (set_behind ws (drop 1 ws) k v (whole ws seven) refl)) up spare

  pub writes_four : (four : List ℕ) → Updates s t i (Some (with_four (element s i) 3 four)) → Writes s t h i (take 2 (words_at s i) ++ four)
  writes_four four up =
      writes s t h tree i there (element s i) here (take 2 (words_at s i) ++ four) _
      (ap (λ (w : List ℕ). record { next = (element s i).next; words = w }) (four_behind ((element s i).words) four seven)) up spare

-- each item's element has its words

abbrev pub AllStored : Store → List Item → Type 0
AllStored s [] = Unit {0}
AllStored s (n ∷ ns) = ((n.words ≡ drop 1 ((element s n.id).words)) × IsSome (at s n.id)) × AllStored s ns

stored_join : (s : Store) (xs ys : List Item) → AllStored s xs → AllStored s ys → AllStored s (xs ++ ys)
stored_join s [] ys h k = k
stored_join s (x ∷ xs) ys h k = (h.0, stored_join s xs ys h.1 k)

all_stored : (s : Store) (x : Shape) → Held s x → AllStored s (items_in x)
all_stored s leaf h = tt
all_stored s (node l id w q) h =
    stored_join s (items_in l) (record { id = id; words = w } ∷ items_in q) (all_stored s l h.0)
    ((ap (λ (z : Element). drop 1 z.words) (sym (element_is s id (written l w q) h.1)), some_of s id (written l w q) h.1), all_stored s q h.2)

pub stored : (s : Store) (h : ItemTree) → IsTree s h → AllStored s (items s h)
unfolding IsTree items
stored s h t = all_stored s (grown s limit h.root) t.held
