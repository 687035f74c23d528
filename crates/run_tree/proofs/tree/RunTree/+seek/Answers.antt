use Rattle.std.proofs.Common.{◌≡◌, ◌+◌, ◌≤◌, length, arith}
use Rattle.run_tree.specs.Trees.{runs}
use Rattle.run_tree.proofs.TreeLemmas.{length-tree}
use Rattle.run_tree.proofs.SearchLemmas.{seek_none, seek_right}
use Rattle.run_tree.proofs.tree.RunTree.+seek.Goals as goal

pub returns-then-self-eq0 : goal.returns-then-self-eq0
returns-then-self-eq0 t c = seek_none c.args.elements.now c.args.self c.args.n c.requires.tree c.if-self-eq0.true

pub overflow_add-result-else-from : goal.overflow_add-result-else-from
overflow_add-result-else-from t c =
    let len : length (runs c.args.elements.now c.open-node.result.right) ≡ c.open-node.result.right.count = length-tree c.args.elements.now c.open-node.result.right c.open-node.ensures.opens.right in
    let rest : c.seek-rest.result ≤ length (runs c.args.elements.now c.open-node.result.right) = c.seek-rest.ensures.within in
    let all : c.args.self.count ≡ c.open-node.result.left.count + c.open-node.result.right.count + 1 = c.open-node.ensures.opens.count in
    omega arith

pub returns-else-from : goal.returns-else-from
returns-else-from t c =
    seek_right c.args.elements.now c.args.self c.open-node.result c.open-node.ensures.opens c.requires.tree c.args.n c.seek-rest.result (omega (arith, c.if-from.false, c.from.ensures, c.from-2.ensures, c.from-3.ensures)) c.seek-rest.ensures
