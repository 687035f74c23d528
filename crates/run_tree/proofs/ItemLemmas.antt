-- The runs of a node, place by place, and the longest of a list.
use Rattle.std.proofs.Common.{◌≡◌, ℕ, zero, suc, ◌+◌, ◌-◌, ◌<◌, ◌≤◌, ◌⊎◌, inl, inr, max, List, [], ◌∷◌, length, get_or, Some, sym, ap, ◌∙◌, arith}
use Rattle.std.specs.Prelude.{slice_get}
use Rattle.std.proofs.lemmas.List.{get_or_append_left, get_or-append_right, get_or_at}
use Rattle.std.proofs.lemmas.Option.{get_or_from_slice_get, slice_get-get_or}
use Rattle.std.proofs.lemmas.Bool.Decides.{eqb_tells}
use Rattle.vsm_elements.specs.Store.{Store}
use Rattle.run_tree.specs.declared.run.Run.{Run}
use Rattle.run_tree.specs.declared.tree.RunTree.{RunTree}
use Rattle.run_tree.specs.declared.shape.RunNode.{RunNode}
use Rattle.run_tree.specs.Shape.{longest}
use Rattle.run_tree.specs.Trees.{runs, IsTree, Opens}
use Rattle.run_tree.specs.Searches.{none, run_at}
use Rattle.run_tree.proofs.TreeLemmas.{length-tree}

module _ (s : Store) (h : RunTree) (n : RunNode) (o : Opens s h n) where
  pub at_left : (i : ℕ) → i < n.left.count → run_at (runs s h) i ≡ run_at (runs s n.left) i
  at_left i low = ap (λ (x : List Run). get_or x i none) o.are ∙ get_or_append_left (runs s n.left) (n.run ∷ runs s n.right) none i (omega (arith, low, length-tree s n.left o.left))

  pub at_here : (i : ℕ) → i ≡ n.left.count → run_at (runs s h) i ≡ n.run
  at_here i e = ap (λ (x : List Run). get_or x i none) o.are ∙ get_or_at (runs s n.left) n.run (runs s n.right) none i (length-tree s n.left o.left ∙ sym e)

  pub at_right : (i j : ℕ) → i ≡ n.left.count + 1 + j → run_at (runs s h) i ≡ run_at (runs s n.right) j
  at_right i j e =
      let f : i - n.left.count ≡ suc j = omega arith in
      ap (λ (x : List Run). get_or x i none) o.are
      ∙ get_or-append_right (runs s n.left) (n.run ∷ runs s n.right) n.left.count i none (length-tree s n.left o.left) (omega arith)
      ∙ ap (λ (k : ℕ). get_or (n.run ∷ runs s n.right) k none) f

  module _ (tree : IsTree s h) where
    pub get_at : (i : ℕ) (r : Run) → i < h.count → run_at (runs s h) i ≡ r → slice_get (runs s h) i ≡ Some r
    get_at i r low e = slice_get-get_or (runs s h) i none (omega (arith, low, length-tree s h tree)) ∙ ap Some e

    pub got_left : (i : ℕ) (r : Run) → i < n.left.count → slice_get (runs s n.left) i ≡ Some r → slice_get (runs s h) i ≡ Some r
    got_left i r low e = get_at i r (omega (arith, low, o.count)) (at_left i low ∙ get_or_from_slice_get (runs s n.left) i r none e)

    pub got_here : (i : ℕ) → i ≡ n.left.count → slice_get (runs s h) i ≡ Some n.run
    got_here i e = get_at i n.run (omega (arith, e, o.count)) (at_here i e)

    pub got_right : (i j : ℕ) (r : Run) → i < h.count → i ≡ n.left.count + 1 + j → slice_get (runs s n.right) j ≡ Some r → slice_get (runs s h) i ≡ Some r
    got_right i j r low e f = get_at i r low (at_right i j e ∙ get_or_from_slice_get (runs s n.right) j r none f)

pub le_or_lt : (a b : ℕ) → (a ≤ b) ⊎ (b < a)
le_or_lt a b = elim (eqb_tells (a - b) 0) [ inl p ↦ inl (omega (arith, p.1)) | inr p ↦ inr (omega (arith, p.1)) ]

-- the longest of a list

pub longest_le : (room : Run → ℕ) (rs : List Run) (i : ℕ) → i < length rs → room (run_at rs i) ≤ longest room rs
longest_le room [] i low = absurd (omega arith)
longest_le room (r ∷ rs) zero low = omega arith
longest_le room (r ∷ rs) (suc i) low = omega (arith, longest_le room rs i (omega arith))

pub longest_at : (room : Run → ℕ) (rs : List Run) → 0 < longest room rs → (i : ℕ) × (i < length rs) × (room (run_at rs i) ≡ longest room rs)
longest_at room [] some = absurd (omega arith)
longest_at room (r ∷ rs) some = go (le_or_lt (longest room rs) (room r)) (longest_at room rs) where
  go : (longest room rs ≤ room r) ⊎ (room r < longest room rs)
      → (0 < longest room rs → (i : ℕ) × (i < length rs) × (room (run_at rs i) ≡ longest room rs))
      → (i : ℕ) × (i < suc (length rs)) × (room (run_at (r ∷ rs) i) ≡ max (room r) (longest room rs))
  go (inl p) rest = (0, omega arith, omega arith)
  go (inr p) rest =
      let q : (i : ℕ) × (i < length rs) × (room (run_at rs i) ≡ longest room rs) = rest (omega arith) in
      (suc q.0, omega (arith, q.1), q.2 ∙ omega arith)
