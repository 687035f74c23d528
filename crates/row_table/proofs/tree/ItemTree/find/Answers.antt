use Rattle.std.proofs.Common.{refl, ◌∙◌, arith}
use Rattle.row_table.proofs.FindLemmas.{none_in, left_order, right_order, in_left, in_middle, in_right}
use Rattle.row_table.proofs.tree.ItemTree.find.Goals as goal

pub loop-tree-preserved-then-k-here : goal.loop-tree-preserved-then-k-here
loop-tree-preserved-then-k-here c = record {
  tree = c.open-node.ensures.left;
  order = left_order c.args.elements.now c.loop-tree.tree c.open-node.result c.open-node.ensures c.loop-tree.invariant.order c.args.k;
  same = in_left c.args.elements.now c.loop-tree.tree c.open-node.result c.open-node.ensures c.loop-tree.invariant.order c.args.k (omega (arith, c.from-here.ensures, c.if-k-here.true)) _ refl
      ∙ c.loop-tree.invariant.same;
}

pub returns-then-k-here-2 : goal.returns-then-k-here-2
returns-then-k-here-2 c =
    in_middle c.args.elements.now c.loop-tree.tree c.open-node.result c.open-node.ensures c.loop-tree.invariant.order c.args.k (c.if-k-here-2.true ∙ c.from-here.ensures)
    ∙ c.loop-tree.invariant.same

pub loop-tree-preserved : goal.loop-tree-preserved
loop-tree-preserved c = record {
  tree = c.open-node.ensures.right;
  order = right_order c.args.elements.now c.loop-tree.tree c.open-node.result c.open-node.ensures c.loop-tree.invariant.order c.args.k;
  same = in_right c.args.elements.now c.loop-tree.tree c.open-node.result c.open-node.ensures c.loop-tree.invariant.order c.args.k (omega (arith, c.from-here.ensures, c.if-k-here.false, c.if-k-here-2.false)) _ refl
      ∙ c.loop-tree.invariant.same;
}

pub returns : goal.returns
returns c = none_in c.args.elements.now c.loop-tree.tree c.args.k c.loop-tree-test.false ∙ c.loop-tree.invariant.same
