use Rattle.std.proofs.Common.{◌≡◌, ◌+◌, ◌-◌, arith}
use Rattle.run_tree.proofs.ItemLemmas.{got_here, got_right}
use Rattle.run_tree.proofs.tree.RunTree.+get.Goals as goal

pub returns-then-k-node-2 : goal.returns-then-k-node-2
returns-then-k-node-2 t c = got_here c.args.elements.now c.args.self c.open-node.result c.open-node.ensures.opens c.requires.tree c.args.k c.if-k-node-2.true

pub returns-else-k-node-2 : goal.returns-else-k-node-2
returns-else-k-node-2 t c =
    let e : c.args.k ≡ c.open-node.result.left.count + 1 + (c.args.k - c.open-node.result.left.count - 1) = omega (arith, c.if-k-node.false, c.if-k-node-2.false) in
    got_right c.args.elements.now c.args.self c.open-node.result c.open-node.ensures.opens c.requires.tree c.args.k (c.args.k - c.open-node.result.left.count - 1) _ c.requires.place e c.get-else-k-node-2.ensures
