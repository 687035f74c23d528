use Rattle.row_table.proofs.ItemCallLemmas.{at_key, first_tree, first_distinct, second_tree, second_distinct, puts}
use Rattle.row_table.proofs.tree.ItemTree.put.Goals as goal

pub merge-front-requires-clause-first : goal.merge-front-requires-clause-first
merge-front-requires-clause-first c = first_tree c.args.elements.now c.split.new.elements c.join-one.new.elements c.args.self.now c.split.result.0 c.split.result.1 c.empty.result c.empty-2.result c.join-one.result c.args.item c.requires.tree c.requires.order c.requires.absent c.requires.out (at_key _ _ _ _ _ _ _ c.from.ensures c.split.ensures) c.join-one.ensures c.empty.ensures.owned c.empty.ensures.items c.empty-2.ensures.owned c.empty-2.ensures.items

pub merge-front-requires-clause-distinct : goal.merge-front-requires-clause-distinct
merge-front-requires-clause-distinct c = first_distinct c.args.elements.now c.split.new.elements c.join-one.new.elements c.args.self.now c.split.result.0 c.split.result.1 c.empty.result c.empty-2.result c.join-one.result c.args.item c.requires.tree c.requires.order c.requires.absent c.requires.out (at_key _ _ _ _ _ _ _ c.from.ensures c.split.ensures) c.join-one.ensures c.empty.ensures.owned c.empty.ensures.items c.empty-2.ensures.owned c.empty-2.ensures.items

pub merge-requires-clause-second : goal.merge-requires-clause-second
merge-requires-clause-second c = second_tree c.args.elements.now c.split.new.elements c.join-one.new.elements c.args.self.now c.split.result.0 c.split.result.1 c.empty.result c.empty-2.result c.join-one.result c.args.item c.requires.tree c.requires.order c.requires.absent c.requires.out (at_key _ _ _ _ _ _ _ c.from.ensures c.split.ensures) c.join-one.ensures c.empty.ensures.owned c.empty.ensures.items c.empty-2.ensures.owned c.empty-2.ensures.items c.merge-front.new.elements c.merge-front.result c.merge-front.ensures

pub merge-requires-clause-distinct : goal.merge-requires-clause-distinct
merge-requires-clause-distinct c = second_distinct c.args.elements.now c.split.new.elements c.join-one.new.elements c.args.self.now c.split.result.0 c.split.result.1 c.empty.result c.empty-2.result c.join-one.result c.args.item c.requires.tree c.requires.order c.requires.absent c.requires.out (at_key _ _ _ _ _ _ _ c.from.ensures c.split.ensures) c.join-one.ensures c.empty.ensures.owned c.empty.ensures.items c.empty-2.ensures.owned c.empty-2.ensures.items c.merge-front.new.elements c.merge-front.result c.merge-front.ensures

pub returns : goal.returns
returns c = puts c.args.elements.now c.split.new.elements c.join-one.new.elements c.args.self.now c.split.result.0 c.split.result.1 c.empty.result c.empty-2.result c.join-one.result c.args.item c.requires.tree c.requires.order c.requires.absent c.requires.out (at_key _ _ _ _ _ _ _ c.from.ensures c.split.ensures) c.join-one.ensures c.empty.ensures.owned c.empty.ensures.items c.empty-2.ensures.owned c.empty-2.ensures.items c.merge-front.new.elements c.merge-front.result c.merge-front.ensures c.merge.new.elements c.merge.result c.merge.ensures
