use Rattle.row_table.proofs.ItemCallLemmas.{rest_order, root_some, before_tree, left_distinct, takes}
use Rattle.row_table.proofs.tree.ItemTree.take.Goals as goal

pub split-requires-2-clause-order : goal.split-requires-2-clause-order
split-requires-2-clause-order c = rest_order c.args.elements.now c.split.new.elements c.args.self.now c.split.result.0 c.split.result.1 c.args.k c.requires.tree c.requires.order c.requires.there c.split.ensures

pub open-requires-clause-some : goal.open-requires-clause-some
open-requires-clause-some c = root_some c.args.elements.now c.split.new.elements c.args.self.now c.split.result.0 c.split.result.1 c.args.k c.requires.tree c.requires.order c.requires.there c.split.ensures c.split-2.new.elements c.split-2.result.0 c.split-2.result.1 c.split-2.ensures

pub merge-requires-clause-first : goal.merge-requires-clause-first
merge-requires-clause-first c = before_tree c.args.elements.now c.split.new.elements c.args.self.now c.split.result.0 c.split.result.1 c.args.k c.requires.tree c.requires.order c.requires.there c.split.ensures c.split-2.new.elements c.split-2.result.0 c.split-2.result.1 c.split-2.ensures

pub merge-requires-clause-distinct : goal.merge-requires-clause-distinct
merge-requires-clause-distinct c = left_distinct c.args.elements.now c.split.new.elements c.args.self.now c.split.result.0 c.split.result.1 c.args.k c.requires.tree c.requires.order c.requires.there c.split.ensures c.split-2.new.elements c.split-2.result.0 c.split-2.result.1 c.split-2.ensures

pub returns : goal.returns
returns c = takes c.args.elements.now c.split.new.elements c.args.self.now c.split.result.0 c.split.result.1 c.args.k c.requires.tree c.requires.order c.requires.there c.split.ensures c.split-2.new.elements c.split-2.result.0 c.split-2.result.1 c.split-2.ensures c.open.result c.open.ensures c.merge.new.elements c.merge.result c.merge.ensures
