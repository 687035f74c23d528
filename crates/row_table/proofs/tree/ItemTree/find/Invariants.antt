use Rattle.std.proofs.Common.{◌≡◌}
use Rattle.row_table.specs.Items.{item_in, Ascends}
use Rattle.row_table.specs.Trees.{count, items, IsTree}
use Rattle.row_table.proofs.tree.ItemTree.find.Given as goal

abbrev pub invariant-loop-tree : goal.invariant-loop-tree
invariant-loop-tree l = record {
  tree : IsTree l.elements l.tree;
  order : Ascends (items l.elements l.tree);
  same : item_in l.k (items l.elements l.tree) ≡ item_in l.k (items l.elements l.fn.self);
}

abbrev pub decreases-loop-tree : goal.decreases-loop-tree
decreases-loop-tree l = count l.elements l.tree
