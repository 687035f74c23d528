use Rattle.std.proofs.Common.{◌+◌, arith}
use Rattle.run_tree.specs.Trees.{runs}
use Rattle.run_tree.proofs.SearchLemmas.{find_none, find_left, find_right, found_at}
use Rattle.run_tree.proofs.tree.RunTree.find.Goals as goal

pub loop-tree-init : goal.loop-tree-init
loop-tree-init c = record {
  tree = c.requires.tree;
  within = omega arith;
  rest = λ f g. found_at c.args.n c.args.before c.args.behind (runs c.args.elements.now c.args.self) f f.index _ (omega arith) g;
}

pub open-node-requires-clause-tree : goal.open-node-requires-clause-tree
open-node-requires-clause-tree c = c.loop-tree.invariant.tree

pub loop-tree-preserved-then-from : goal.loop-tree-preserved-then-from
loop-tree-preserved-then-from c = record {
  tree = c.open-node.ensures.opens.left;
  within = omega (arith, c.loop-tree.invariant.within, c.open-node.ensures.opens.count);
  rest = λ f g. c.loop-tree.invariant.rest f (find_left c.args.elements.now c.loop-tree.tree c.open-node.result c.open-node.ensures.opens c.loop-tree.invariant.tree c.args.n c.loop-tree.found.before c.loop-tree.found.behind f
      (omega (arith, c.if-from.true, c.from.ensures, c.from-in-loop-tree.ensures, c.from-in-loop-tree-2.ensures)) g);
}

pub overflow_add-found-else-from : goal.overflow_add-found-else-from
overflow_add-found-else-from c = omega (arith, c.loop-tree.invariant.within, c.open-node.ensures.opens.count)

pub loop-tree-preserved : goal.loop-tree-preserved
loop-tree-preserved c = record {
  tree = c.open-node.ensures.opens.right;
  within = omega (arith, c.loop-tree.invariant.within, c.open-node.ensures.opens.count);
  rest = λ f g. found_at c.args.n c.args.before c.args.behind (runs c.args.elements.now c.args.self) f (c.loop-tree.found.index + (c.open-node.result.left.count + 1 + f.index)) _ (omega arith)
      (c.loop-tree.invariant.rest (record { index = c.open-node.result.left.count + 1 + f.index; before = f.before; behind = f.behind })
      (find_right c.args.elements.now c.loop-tree.tree c.open-node.result c.open-node.ensures.opens c.loop-tree.invariant.tree c.args.n c.loop-tree.found.before c.loop-tree.found.behind f
      (omega (arith, c.if-from.false, c.from.ensures, c.from-in-loop-tree.ensures, c.from-in-loop-tree-2.ensures)) g));
}

pub returns : goal.returns
returns c =
    let found = c.loop-tree.found in
    found_at c.args.n c.args.before c.args.behind (runs c.args.elements.now c.args.self) found (found.index + 0) found.index (omega arith)
    (c.loop-tree.invariant.rest (record { index = 0; before = found.before; behind = found.behind })
    (find_none c.args.elements.now c.loop-tree.tree c.args.n found.before found.behind c.loop-tree.invariant.tree (omega (arith, c.loop-tree-test.false))))
