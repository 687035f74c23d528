use Rattle.std.proofs.Common.{◌≡◌, ◌+◌, ◌%◌, ◌^◌, ◌≤◌, take}
use Rattle.run_tree.specs.Shape.{total}
use Rattle.run_tree.specs.Trees.{runs, IsTree}
use Rattle.run_tree.proofs.tree.RunTree.total_before.Given as goal

abbrev pub invariant-loop-rest : goal.invariant-loop-rest
invariant-loop-rest l = record {
  tree : IsTree l.elements l.tree;
  within : l.rest ≤ l.tree.count;
  sum : (l.numbers + total (take l.rest (runs l.elements l.tree))) % 2 ^ 32 ≡ total (take l.fn.k (runs l.elements l.fn.self)) % 2 ^ 32;
}

abbrev pub decreases-loop-rest : goal.decreases-loop-rest
decreases-loop-rest l = l.tree.count
