use Rattle.std.proofs.Common.{◌<◌, ◌≤◌, arith, rules}
use Rattle.row_table.specs.Items.{key}
use Rattle.row_table.proofs.SplitLemmas.{split_none, left_order, right_order, right_tree, up_distinct, up_live, split_left, left_tree, up_distinct', up_live', split_right}
use Rattle.row_table.proofs.tree.ItemTree.+split.Goals as goal

pub returns-then-self-eq0 : goal.returns-then-self-eq0
returns-then-self-eq0 t c = split_none c.args.elements.now c.args.self c.args.k c.requires.tree c.if-self-eq0.true

pub split-requires : goal.split-requires
split-requires t c = (search rules, (c.open-node.ensures.right, right_order c.args.elements.now c.args.self c.open-node.result c.open-node.ensures c.requires.order))

pub join-first-requires-clause-left : goal.join-first-requires-clause-left
join-first-requires-clause-left t c =
    let low : key c.open-node.result.item < c.args.k = omega (arith, c.from.ensures, c.if-from-k.true) in
    left_tree c.args.elements.now c.args.self c.open-node.result c.open-node.ensures c.requires.order c.args.k low c.split.new.elements c.split.result.0 c.split.result.1 c.split.ensures

pub join-first-requires-clause-distinct : goal.join-first-requires-clause-distinct
join-first-requires-clause-distinct t c =
    let low : key c.open-node.result.item < c.args.k = omega (arith, c.from.ensures, c.if-from-k.true) in
    up_distinct' c.args.elements.now c.args.self c.open-node.result c.open-node.ensures c.requires.order c.args.k low c.split.new.elements c.split.result.0 c.split.result.1 c.split.ensures

pub join-first-requires-clause-live : goal.join-first-requires-clause-live
join-first-requires-clause-live t c =
    let low : key c.open-node.result.item < c.args.k = omega (arith, c.from.ensures, c.if-from-k.true) in
    up_live' c.args.elements.now c.args.self c.open-node.result c.open-node.ensures c.requires.order c.args.k low c.split.new.elements c.split.result.0 c.split.result.1 c.split.ensures

pub split-requires-else-from-k : goal.split-requires-else-from-k
split-requires-else-from-k t c = (search rules, (c.open-node.ensures.left, left_order c.args.elements.now c.args.self c.open-node.result c.open-node.ensures c.requires.order))

pub join-second-requires-clause-right : goal.join-second-requires-clause-right
join-second-requires-clause-right t c =
    let high : c.args.k ≤ key c.open-node.result.item = omega (arith, c.from.ensures, c.if-from-k.false) in
    right_tree c.args.elements.now c.args.self c.open-node.result c.open-node.ensures c.requires.order c.args.k high c.split-else-from-k.new.elements c.split-else-from-k.result.0 c.split-else-from-k.result.1 c.split-else-from-k.ensures

pub join-second-requires-clause-distinct : goal.join-second-requires-clause-distinct
join-second-requires-clause-distinct t c =
    let high : c.args.k ≤ key c.open-node.result.item = omega (arith, c.from.ensures, c.if-from-k.false) in
    up_distinct c.args.elements.now c.args.self c.open-node.result c.open-node.ensures c.requires.order c.args.k high c.split-else-from-k.new.elements c.split-else-from-k.result.0 c.split-else-from-k.result.1 c.split-else-from-k.ensures

pub join-second-requires-clause-live : goal.join-second-requires-clause-live
join-second-requires-clause-live t c =
    let high : c.args.k ≤ key c.open-node.result.item = omega (arith, c.from.ensures, c.if-from-k.false) in
    up_live c.args.elements.now c.args.self c.open-node.result c.open-node.ensures c.requires.order c.args.k high c.split-else-from-k.new.elements c.split-else-from-k.result.0 c.split-else-from-k.result.1 c.split-else-from-k.ensures

pub returns-then-from-k : goal.returns-then-from-k
returns-then-from-k t c =
    let low : key c.open-node.result.item < c.args.k = omega (arith, c.from.ensures, c.if-from-k.true) in
    split_right c.args.elements.now c.args.self c.open-node.result c.open-node.ensures c.requires.order c.args.k low c.split.new.elements c.split.result.0 c.split.result.1 c.split.ensures c.join-first.new.elements c.join-first.result c.join-first.ensures

pub returns-else-from-k : goal.returns-else-from-k
returns-else-from-k t c =
    let high : c.args.k ≤ key c.open-node.result.item = omega (arith, c.from.ensures, c.if-from-k.false) in
    split_left c.args.elements.now c.args.self c.open-node.result c.open-node.ensures c.requires.order c.args.k high c.split-else-from-k.new.elements c.split-else-from-k.result.0 c.split-else-from-k.result.1 c.split-else-from-k.ensures c.join-second.new.elements c.join-second.result c.join-second.ensures
