use Rattle.std.proofs.Common.{◌<◌, ◌≤◌, arith, rules}
use Rattle.row_table.specs.Items.{key}
use Rattle.row_table.proofs.FindLemmas.{left_order, right_order}
use Rattle.row_table.proofs.FromLemmas.{none_or, or_right, or_left}
use Rattle.row_table.proofs.tree.ItemTree.+first_from.Goals as goal

pub returns-then-self-eq0 : goal.returns-then-self-eq0
returns-then-self-eq0 t c = none_or c.args.elements.now c.args.self c.args.k c.args.best c.if-self-eq0.true

pub first_from-requires : goal.first_from-requires
first_from-requires t c = (search rules, (c.open-node.ensures.right, right_order c.args.elements.now c.args.self c.open-node.result c.open-node.ensures c.requires.order c.args.k))

pub first_from-requires-else-from-k : goal.first_from-requires-else-from-k
first_from-requires-else-from-k t c = (search rules, (c.open-node.ensures.left, left_order c.args.elements.now c.args.self c.open-node.result c.open-node.ensures c.requires.order c.args.k))

pub returns-then-from-k : goal.returns-then-from-k
returns-then-from-k t c =
    let low : key c.open-node.result.item < c.args.k = omega (arith, c.from.ensures, c.if-from-k.true) in
    or_right c.args.elements.now c.args.self c.open-node.result c.open-node.ensures c.requires.order c.args.k c.args.best low _ c.first_from.ensures

pub returns-else-from-k : goal.returns-else-from-k
returns-else-from-k t c =
    let high : c.args.k ≤ key c.open-node.result.item = omega (arith, c.from.ensures, c.if-from-k.false) in
    or_left c.args.elements.now c.args.self c.open-node.result c.open-node.ensures c.requires.order c.args.k c.args.best high _ c.first_from-else-from-k.ensures
