use Rattle.std.proofs.Common.{◌-◌, arith, refl}
use Rattle.run_tree.proofs.CutOutLemmas.{both_distinct, cut_here, right_tree, up_distinct, up_live, cut_before, left_tree, up_distinct', up_live', cut_behind}
use Rattle.run_tree.proofs.tree.RunTree.+cut.Goals as goal

pub join-rest-requires-clause-right : goal.join-rest-requires-clause-right
join-rest-requires-clause-right t c = right_tree c.args.elements.now c.args.self c.open-node.result c.open-node.ensures.opens c.args.k (omega (arith, c.if-k-node.true)) c.cut-id.new.elements c.cut-id.result.0 c.cut-id.result.1 c.cut-id.ensures.cuts

pub join-rest-requires-clause-distinct : goal.join-rest-requires-clause-distinct
join-rest-requires-clause-distinct t c = up_distinct c.args.elements.now c.args.self c.open-node.result c.open-node.ensures.opens c.args.k (omega (arith, c.if-k-node.true)) c.cut-id.new.elements c.cut-id.result.0 c.cut-id.result.1 c.cut-id.ensures.cuts

pub join-rest-requires-clause-live : goal.join-rest-requires-clause-live
join-rest-requires-clause-live t c = up_live c.args.elements.now c.args.self c.open-node.result c.open-node.ensures.opens c.args.k (omega (arith, c.if-k-node.true)) c.cut-id.new.elements c.cut-id.result.0 c.cut-id.result.1 c.cut-id.ensures.cuts

pub returns-then-k-node-clause-cuts : goal.returns-then-k-node-clause-cuts
returns-then-k-node-clause-cuts t c = cut_before c.args.elements.now c.args.self c.open-node.result c.open-node.ensures.opens c.args.k (omega (arith, c.if-k-node.true)) c.cut-id.new.elements c.cut-id.result.0 c.cut-id.result.1 c.cut-id.ensures.cuts c.join-rest.new.elements c.join-rest.result c.join-rest.ensures

pub merge-rest-requires-clause-distinct : goal.merge-rest-requires-clause-distinct
merge-rest-requires-clause-distinct t c = both_distinct c.args.elements.now c.args.self c.open-node.result c.open-node.ensures.opens

pub returns-then-k-node-2-clause-cuts : goal.returns-then-k-node-2-clause-cuts
returns-then-k-node-2-clause-cuts t c = cut_here c.args.elements.now c.args.self c.open-node.result c.open-node.ensures.opens c.args.k c.merge-rest.new.elements c.merge-rest.result c.if-k-node-2.true c.merge-rest.ensures

pub join-rest-requires-else-k-node-2-clause-left : goal.join-rest-requires-else-k-node-2-clause-left
join-rest-requires-else-k-node-2-clause-left t c = left_tree c.args.elements.now c.args.self c.open-node.result c.open-node.ensures.opens c.args.k (c.args.k - c.open-node.result.left.count - 1) (omega (arith, c.if-k-node.false, c.if-k-node-2.false)) refl c.cut-id-else-k-node-2.new.elements c.cut-id-else-k-node-2.result.0 c.cut-id-else-k-node-2.result.1 c.cut-id-else-k-node-2.ensures.cuts

pub join-rest-requires-else-k-node-2-clause-distinct : goal.join-rest-requires-else-k-node-2-clause-distinct
join-rest-requires-else-k-node-2-clause-distinct t c = up_distinct' c.args.elements.now c.args.self c.open-node.result c.open-node.ensures.opens c.args.k (c.args.k - c.open-node.result.left.count - 1) (omega (arith, c.if-k-node.false, c.if-k-node-2.false)) refl c.cut-id-else-k-node-2.new.elements c.cut-id-else-k-node-2.result.0 c.cut-id-else-k-node-2.result.1 c.cut-id-else-k-node-2.ensures.cuts

pub join-rest-requires-else-k-node-2-clause-live : goal.join-rest-requires-else-k-node-2-clause-live
join-rest-requires-else-k-node-2-clause-live t c = up_live' c.args.elements.now c.args.self c.open-node.result c.open-node.ensures.opens c.args.k (c.args.k - c.open-node.result.left.count - 1) (omega (arith, c.if-k-node.false, c.if-k-node-2.false)) refl c.cut-id-else-k-node-2.new.elements c.cut-id-else-k-node-2.result.0 c.cut-id-else-k-node-2.result.1 c.cut-id-else-k-node-2.ensures.cuts

pub returns-else-k-node-2-clause-cuts : goal.returns-else-k-node-2-clause-cuts
returns-else-k-node-2-clause-cuts t c = cut_behind c.args.elements.now c.args.self c.open-node.result c.open-node.ensures.opens c.args.k (c.args.k - c.open-node.result.left.count - 1) (omega (arith, c.if-k-node.false, c.if-k-node-2.false)) refl c.cut-id-else-k-node-2.new.elements c.cut-id-else-k-node-2.result.0 c.cut-id-else-k-node-2.result.1 c.cut-id-else-k-node-2.ensures.cuts c.join-rest-else-k-node-2.new.elements c.join-rest-else-k-node-2.result c.join-rest-else-k-node-2.ensures
