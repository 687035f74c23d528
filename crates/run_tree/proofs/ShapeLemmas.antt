-- What a shape holds, and that it is read off the elements.
use Rattle.std.proofs.Common.{◌≡◌, ℕ, zero, suc, ◌+◌, ◌%◌, ◌^◌, ◌<◌, ◌≤◌, true, false, inl, inr, max, List, [], ◌∷◌, ◌++◌, length, refl, sym, ap, ◌∙◌, arith, IsSome, length-append}
use Rattle.std.specs.Prelude.{slice_index_or}
use Rattle.std.proofs.lemmas.Bool.Decides.{eqb_tells}
use Rattle.vsm_elements.specs.declared.element.Element.{Element}
use Rattle.vsm_elements.specs.Store.{Store, at, among}
use Rattle.vsm_elements.specs.Chain.{element}
use Rattle.vsm_elements.proofs.StoreLemmas.{in_table_bounds, among_cons}
use Rattle.vsm_elements.proofs.StoreSteps.{is_live}
use Rattle.vsm_elements.proofs.ChainLemmas.{not_both}
use Rattle.vsm_elements.proofs.ChainCalls.{element_is, some_of}
use Rattle.run_tree.specs.declared.run.Run.{Run}
use Rattle.run_tree.specs.declared.tree.RunTree.{RunTree}
use Rattle.run_tree.specs.Shape.{Shape, leaf, node, runs_in, ids_in, size, top, written, Held, grown, longest, total, IsTreeOf}
use Rattle.run_tree.proofs.Lists.{in_left, in_last, in_middle, in_parts}

pub positive : (s : Store) (i : ℕ) → IsSome (at s i) → 0 < i
positive s i h = (in_table_bounds s.blocks i (is_live s i h).in_range).0

pub size_node : (l : Shape) (id : ℕ) (r : Run) (q : Shape) → size (node l id r q) ≡ size l + size q + 1
size_node l id r q = omega (arith, length-append (ids_in l) (id ∷ ids_in q))

-- a shape whose elements are as they were
pub Held-same : (s t : Store) (x : Shape) → Held s x → ((i : ℕ) → among i (ids_in x) ≡ true → at t i ≡ at s i) → Held t x
Held-same s t leaf h same = tt
Held-same s t (node l id r q) h same = (
  Held-same s t l h.0 (λ i m. same i (in_left i (ids_in l) (id ∷ ids_in q) m)),
  same id (in_middle (ids_in l) id (ids_in q)) ∙ h.1,
  Held-same s t q h.2 (λ i m. same i (in_last i (ids_in l) id (ids_in q) m)),
)

pub live_in : (s : Store) (x : Shape) → Held s x → (i : ℕ) → among i (ids_in x) ≡ true → IsSome (at s i)
live_in s leaf h i m = absurd (not_both false m refl)
live_in s (node l id r q) h i m = elim (in_parts i (ids_in l) (id ∷ ids_in q) m) [
  | inl k ↦ live_in s l h.0 i k
  | inr k ↦ elim (eqb_tells i id) [
    | inl p ↦ some_of s i (written l r q) (ap (at s) p.1 ∙ h.1)
    | inr p ↦ live_in s q h.2 i (sym (among_cons i id (ids_in q) p.1) ∙ k)
  ]
]

-- what is read is what is held
pub grown_held : (s : Store) (x : Shape) (n : ℕ) → size x ≤ n → Held s x → grown s n (top x) ≡ x
grown_held s leaf zero le h = refl
grown_held s leaf (suc n) le h = refl
grown_held s (node l id r q) zero le h = absurd (omega (arith, le, size_node l id r q))
grown_held s (node l zero r q) (suc n) le h = absurd (omega (arith, positive s zero (some_of s zero (written l r q) h.1)))
grown_held s (node l (suc i) r q) (suc n) le h =
    let e : element s (suc i) ≡ written l r q = element_is s (suc i) (written l r q) h.1 in
    let fl : size l ≤ n = omega (arith, le, size_node l (suc i) r q) in
    let fq : size q ≤ n = omega (arith, le, size_node l (suc i) r q) in
    let here : Element → Shape = λ x. node (grown s n x.next) (suc i) (record { start = slice_index_or x.words 2 0; len = slice_index_or x.words 3 0 }) (grown s n (slice_index_or x.words 0 0)) in
    ap here e
    ∙ ap (λ (x : Shape). node x (suc i) r (grown s n (top q))) (grown_held s l n fl h.0)
    ∙ ap (λ (x : Shape). node l (suc i) r x) (grown_held s q n fq h.2)

pub read_off : (s : Store) (h : RunTree) (x : Shape) → IsTreeOf s h x → grown s h.count h.root ≡ x
read_off s h x t = ap (λ (k : ℕ). grown s h.count k) t.root ∙ grown_held s x h.count (omega (arith, t.count)) t.held

-- the longest of a list in parts
pub longest-append : (room : Run → ℕ) (xs ys : List Run) → longest room (xs ++ ys) ≡ max (longest room xs) (longest room ys)
longest-append room [] ys = omega arith
longest-append room (x ∷ xs) ys = omega (arith, longest-append room xs ys)

pub length-runs : (x : Shape) → length (runs_in x) ≡ size x
length-runs leaf = refl
length-runs (node l id r q) = omega (arith, length-append (runs_in l) (r ∷ runs_in q), length-append (ids_in l) (id ∷ ids_in q), length-runs l, length-runs q)

pub longest_node : (room : Run → ℕ) (xs : List Run) (x : Run) (ys : List Run) (n : ℕ) → max (max (longest room xs) (room x)) (longest room ys) ≡ n → n ≡ longest room (xs ++ x ∷ ys)
longest_node room xs x ys n e = omega (arith, e, longest-append room xs (x ∷ ys))

-- the numbers of a list in parts, and what a word holds of them
pub total-append : (xs ys : List Run) → total (xs ++ ys) ≡ total xs + total ys
total-append [] ys = omega arith
total-append (x ∷ xs) ys = omega (arith, total-append xs ys)

pub total_node : (xs : List Run) (x : Run) (ys : List Run) (a b n : ℕ) → a ≡ total xs % 2 ^ 32 → b ≡ total ys % 2 ^ 32 → (a + x.len + b) % 2 ^ 32 ≡ n → n ≡ total (xs ++ x ∷ ys) % 2 ^ 32
total_node xs x ys a b n e f g = omega (arith, e, f, g, total-append xs (x ∷ ys))
