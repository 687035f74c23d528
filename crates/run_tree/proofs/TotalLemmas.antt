-- The numbers of the first runs of a tree, on both sides of its top.
use Rattle.std.proofs.Common.{◌≡◌, ℕ, ◌+◌, ◌%◌, ◌^◌, ◌≤◌, List, ◌∷◌, take, ap, ◌∙◌, arith}
use Rattle.std.proofs.lemmas.List.{take-append-le}
use Rattle.vsm_elements.specs.Store.{Store}
use Rattle.run_tree.specs.declared.run.Run.{Run}
use Rattle.run_tree.specs.declared.tree.RunTree.{RunTree}
use Rattle.run_tree.specs.declared.shape.RunNode.{RunNode}
use Rattle.run_tree.specs.Shape.{total}
use Rattle.run_tree.specs.Trees.{runs, Opens}
use Rattle.run_tree.proofs.ShapeLemmas.{total-append}
use Rattle.run_tree.proofs.PutLemmas.{take_behind}
use Rattle.run_tree.proofs.TreeLemmas.{length-tree}

module _ (s : Store) (h : RunTree) (n : RunNode) (o : Opens s h n) where
  pub total_left : (k : ℕ) → k ≤ n.left.count → total (take k (runs s h)) ≡ total (take k (runs s n.left))
  total_left k low =
      ap (λ (rs : List Run). total (take k rs)) o.are
      ∙ ap total (take-append-le k (runs s n.left) (n.run ∷ runs s n.right) (omega (arith, low, length-tree s n.left o.left)))

  pub total_right : (k j : ℕ) → k ≡ n.left.count + 1 + j → total (take k (runs s h)) ≡ total (runs s n.left) + n.run.len + total (take j (runs s n.right))
  total_right k j e =
      ap (λ (rs : List Run). total (take k rs)) o.are
      ∙ ap total (take_behind k j (runs s n.left) n.run (runs s n.right) (omega (arith, e, length-tree s n.left o.left)))
      ∙ omega (arith, total-append (runs s n.left) (n.run ∷ take j (runs s n.right)))

  -- what a word holds of the numbers before the top, and of its run's, is counted
  pub counted_right : (k j sum before now all : ℕ) → k ≡ n.left.count + 1 + j → before ≡ total (runs s n.left) % 2 ^ 32 → now ≡ ((sum + before) % 2 ^ 32 + n.run.len) % 2 ^ 32
      → (sum + total (take k (runs s h))) % 2 ^ 32 ≡ all → (now + total (take j (runs s n.right))) % 2 ^ 32 ≡ all
  counted_right k j sum before now all e b is g = omega (arith, b, is, g, total_right k j e)
