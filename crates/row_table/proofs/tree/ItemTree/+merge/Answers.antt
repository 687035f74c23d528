use Rattle.std.proofs.Common.{rules}
use Rattle.row_table.proofs.MergeLemmas.{merged_first, merged_second, back_distinct, left_tree, up_distinct, up_live, merged_above, front_distinct, right_tree, up_distinct', up_live', merged_below}
use Rattle.row_table.proofs.tree.ItemTree.+merge.Goals as goal

pub returns-then-self-eq0 : goal.returns-then-self-eq0
returns-then-self-eq0 t c = merged_first c.args.elements.now c.args.self c.args.other c.requires.first c.requires.second c.if-self-eq0.true

pub returns-then-other-eq0 : goal.returns-then-other-eq0
returns-then-other-eq0 t c = merged_second c.args.elements.now c.args.self c.args.other c.requires.first c.requires.second c.if-other-eq0.true

pub merge-rest-requires : goal.merge-rest-requires
merge-rest-requires t c = (search rules, (c.open-node.ensures.right, (c.requires.second, back_distinct c.args.elements.now c.args.self c.args.other c.open-node.result c.open-node.ensures c.requires.distinct)))

pub join-requires-clause-left : goal.join-requires-clause-left
join-requires-clause-left t c = left_tree c.args.elements.now c.args.self c.args.other c.open-node.result c.open-node.ensures c.requires.distinct c.merge-rest.new.elements c.merge-rest.result c.merge-rest.ensures

pub join-requires-clause-distinct : goal.join-requires-clause-distinct
join-requires-clause-distinct t c = up_distinct c.args.elements.now c.args.self c.args.other c.open-node.result c.open-node.ensures c.requires.distinct c.merge-rest.new.elements c.merge-rest.result c.merge-rest.ensures

pub join-requires-clause-live : goal.join-requires-clause-live
join-requires-clause-live t c = up_live c.args.elements.now c.args.self c.args.other c.open-node.result c.open-node.ensures c.requires.distinct c.merge-rest.new.elements c.merge-rest.result c.merge-rest.ensures

pub merge-front-requires : goal.merge-front-requires
merge-front-requires t c = (search rules, (c.requires.first, (c.open-node-else-rank.ensures.left, front_distinct c.args.elements.now c.args.self c.args.other c.open-node-else-rank.result c.open-node-else-rank.ensures c.requires.distinct)))

pub join-requires-else-rank-clause-right : goal.join-requires-else-rank-clause-right
join-requires-else-rank-clause-right t c = right_tree c.args.elements.now c.args.self c.args.other c.open-node-else-rank.result c.open-node-else-rank.ensures c.requires.distinct c.merge-front.new.elements c.merge-front.result c.merge-front.ensures

pub join-requires-else-rank-clause-distinct : goal.join-requires-else-rank-clause-distinct
join-requires-else-rank-clause-distinct t c = up_distinct' c.args.elements.now c.args.self c.args.other c.open-node-else-rank.result c.open-node-else-rank.ensures c.requires.distinct c.merge-front.new.elements c.merge-front.result c.merge-front.ensures

pub join-requires-else-rank-clause-live : goal.join-requires-else-rank-clause-live
join-requires-else-rank-clause-live t c = up_live' c.args.elements.now c.args.self c.args.other c.open-node-else-rank.result c.open-node-else-rank.ensures c.requires.distinct c.merge-front.new.elements c.merge-front.result c.merge-front.ensures

pub returns-then-rank : goal.returns-then-rank
returns-then-rank t c = merged_above c.args.elements.now c.args.self c.args.other c.open-node.result c.open-node.ensures c.requires.distinct c.merge-rest.new.elements c.merge-rest.result c.merge-rest.ensures c.join.new.elements c.join.result c.join.ensures

pub returns-else-rank : goal.returns-else-rank
returns-else-rank t c = merged_below c.args.elements.now c.args.self c.args.other c.open-node-else-rank.result c.open-node-else-rank.ensures c.requires.distinct c.merge-front.new.elements c.merge-front.result c.merge-front.ensures c.join-else-rank.new.elements c.join-else-rank.result c.join-else-rank.ensures
