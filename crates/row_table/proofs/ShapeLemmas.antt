-- What a shape holds, and that it is read off the elements.
use Rattle.std.proofs.Common.{◌≡◌, ℕ, zero, suc, ◌+◌, ◌<◌, ◌≤◌, true, false, inl, inr, List, [], ◌∷◌, ◌++◌, length, drop, refl, sym, ap, ◌∙◌, arith, IsSome, length-append}
use Rattle.std.specs.Prelude.{slice_index_or, map}
use Rattle.std.proofs.lemmas.Bool.Decides.{eqb_tells}
use Rattle.vsm_elements.specs.declared.element.Element.{Element}
use Rattle.vsm_elements.specs.Store.{Store, at, among}
use Rattle.vsm_elements.specs.Chain.{element}
use Rattle.vsm_elements.proofs.StoreLemmas.{in_table_bounds, among_cons}
use Rattle.vsm_elements.proofs.StoreSteps.{is_live}
use Rattle.vsm_elements.proofs.ChainLemmas.{not_both}
use Rattle.vsm_elements.proofs.ChainCalls.{element_is, some_of}
use Rattle.row_table.specs.declared.item.Item.{Item}
use Rattle.row_table.specs.Shape.{Shape, leaf, node, items_in, ids_in, size, top, written, Held, grown, limit, IsTreeOf}
use Rattle.row_table.proofs.Lists.{in_left, in_last, in_middle, in_parts}

pub positive : (s : Store) (i : ℕ) → IsSome (at s i) → 0 < i
positive s i h = (in_table_bounds s.blocks i (is_live s i h).in_range).0

pub size_node : (l : Shape) (id : ℕ) (w : List ℕ) (q : Shape) → size (node l id w q) ≡ size l + size q + 1
size_node l id w q = omega (arith, length-append (ids_in l) (id ∷ ids_in q))

-- a shape whose elements are as they were
pub Held-same : (s t : Store) (x : Shape) → Held s x → ((i : ℕ) → among i (ids_in x) ≡ true → at t i ≡ at s i) → Held t x
Held-same s t leaf h same = tt
Held-same s t (node l id w q) h same = (
  Held-same s t l h.0 (λ i m. same i (in_left i (ids_in l) (id ∷ ids_in q) m)),
  same id (in_middle (ids_in l) id (ids_in q)) ∙ h.1,
  Held-same s t q h.2 (λ i m. same i (in_last i (ids_in l) id (ids_in q) m)),
)

pub live_in : (s : Store) (x : Shape) → Held s x → (i : ℕ) → among i (ids_in x) ≡ true → IsSome (at s i)
live_in s leaf h i m = absurd (not_both false m refl)
live_in s (node l id w q) h i m = elim (in_parts i (ids_in l) (id ∷ ids_in q) m) [
  | inl k ↦ live_in s l h.0 i k
  | inr k ↦ elim (eqb_tells i id) [
    | inl p ↦ some_of s i (written l w q) (ap (at s) p.1 ∙ h.1)
    | inr p ↦ live_in s q h.2 i (sym (among_cons i id (ids_in q) p.1) ∙ k)
  ]
]

-- what is read is what is held
pub grown_held : (s : Store) (x : Shape) (n : ℕ) → size x ≤ n → Held s x → grown s n (top x) ≡ x
grown_held s leaf zero le h = refl
grown_held s leaf (suc n) le h = refl
grown_held s (node l id w q) zero le h = absurd (omega (arith, le, size_node l id w q))
grown_held s (node l zero w q) (suc n) le h = absurd (omega (arith, positive s zero (some_of s zero (written l w q) h.1)))
grown_held s (node l (suc i) w q) (suc n) le h =
    let e : element s (suc i) ≡ written l w q = element_is s (suc i) (written l w q) h.1 in
    let fl : size l ≤ n = omega (arith, le, size_node l (suc i) w q) in
    let fq : size q ≤ n = omega (arith, le, size_node l (suc i) w q) in
    let here : Element → Shape = λ x. node (grown s n x.next) (suc i) (drop 1 x.words) (grown s n (slice_index_or x.words 0 0)) in
    ap here e
    ∙ ap (λ (x : Shape). node x (suc i) w (grown s n (top q))) (grown_held s l n fl h.0)
    ∙ ap (λ (x : Shape). node l (suc i) w x) (grown_held s q n fq h.2)

pub read_off : (s : Store) (root : ℕ) (x : Shape) → IsTreeOf s root x → grown s limit root ≡ x
read_off s root x t = ap (grown s limit) t.root ∙ grown_held s x limit t.small t.held

pub length-items : (x : Shape) → length (items_in x) ≡ size x
length-items leaf = refl
length-items (node l id w q) = omega (arith, length-append (items_in l) (record { id = id; words = w } ∷ items_in q), length-append (ids_in l) (id ∷ ids_in q), length-items l, length-items q)

abbrev pub id_of : Item → ℕ
id_of n = n.id

pub ids_append : (xs ys : List Item) → map id_of (xs ++ ys) ≡ map id_of xs ++ map id_of ys
ids_append [] ys = refl
ids_append (x ∷ xs) ys = ap (λ (z : List ℕ). x.id ∷ z) (ids_append xs ys)

-- the ids are those of the items
pub ids_are : (x : Shape) → ids_in x ≡ map id_of (items_in x)
ids_are leaf = refl
ids_are (node l id w q) = ap (λ (z : List ℕ). z ++ id ∷ ids_in q) (ids_are l) ∙ ap (λ (z : List ℕ). map id_of (items_in l) ++ id ∷ z) (ids_are q) ∙ sym (ids_append (items_in l) (record { id = id; words = w } ∷ items_in q))
