use Rattle.std.proofs.Common.{◌-◌, arith, refl}
use Rattle.run_tree.proofs.SplitLemmas.{split_none, right_tree, up_distinct, up_live, split_left, left_tree, up_distinct', up_live', split_right}
use Rattle.run_tree.proofs.tree.RunTree.+split.Goals as goal

pub returns-then-self-eq0 : goal.returns-then-self-eq0
returns-then-self-eq0 t c = split_none c.args.elements.now c.args.self c.args.k c.requires.tree c.requires.place c.if-self-eq0.true

pub join-second-requires-clause-right : goal.join-second-requires-clause-right
join-second-requires-clause-right t c = right_tree c.args.elements.now c.args.self c.open-node.result c.open-node.ensures.opens c.args.k c.split.new.elements c.split.result.0 c.split.result.1 c.split.ensures

pub join-second-requires-clause-distinct : goal.join-second-requires-clause-distinct
join-second-requires-clause-distinct t c = up_distinct c.args.elements.now c.args.self c.open-node.result c.open-node.ensures.opens c.args.k c.split.new.elements c.split.result.0 c.split.result.1 c.split.ensures

pub join-second-requires-clause-live : goal.join-second-requires-clause-live
join-second-requires-clause-live t c = up_live c.args.elements.now c.args.self c.open-node.result c.open-node.ensures.opens c.args.k c.split.new.elements c.split.result.0 c.split.result.1 c.split.ensures

pub returns-then-k-node : goal.returns-then-k-node
returns-then-k-node t c = split_left c.args.elements.now c.args.self c.open-node.result c.open-node.ensures.opens c.args.k c.split.new.elements c.split.result.0 c.split.result.1 c.split.ensures c.join-second.new.elements c.join-second.result c.join-second.ensures

pub join-first-requires-clause-left : goal.join-first-requires-clause-left
join-first-requires-clause-left t c =
    left_tree c.args.elements.now c.args.self c.open-node.result c.open-node.ensures.opens c.args.k (c.args.k - c.open-node.result.left.count - 1) (omega (arith, c.if-k-node.false)) refl c.split-else-k-node.new.elements c.split-else-k-node.result.0 c.split-else-k-node.result.1 c.split-else-k-node.ensures

pub join-first-requires-clause-distinct : goal.join-first-requires-clause-distinct
join-first-requires-clause-distinct t c =
    up_distinct' c.args.elements.now c.args.self c.open-node.result c.open-node.ensures.opens c.args.k (c.args.k - c.open-node.result.left.count - 1) (omega (arith, c.if-k-node.false)) refl c.split-else-k-node.new.elements c.split-else-k-node.result.0 c.split-else-k-node.result.1 c.split-else-k-node.ensures

pub join-first-requires-clause-live : goal.join-first-requires-clause-live
join-first-requires-clause-live t c =
    up_live' c.args.elements.now c.args.self c.open-node.result c.open-node.ensures.opens c.args.k (c.args.k - c.open-node.result.left.count - 1) (omega (arith, c.if-k-node.false)) refl c.split-else-k-node.new.elements c.split-else-k-node.result.0 c.split-else-k-node.result.1 c.split-else-k-node.ensures

pub returns-else-k-node : goal.returns-else-k-node
returns-else-k-node t c =
    split_right c.args.elements.now c.args.self c.open-node.result c.open-node.ensures.opens c.args.k (c.args.k - c.open-node.result.left.count - 1) (omega (arith, c.if-k-node.false)) refl c.split-else-k-node.new.elements c.split-else-k-node.result.0 c.split-else-k-node.result.1 c.split-else-k-node.ensures c.join-first.new.elements c.join-first.result c.join-first.ensures
