use Rattle.std.proofs.Common.{rules}
use Rattle.run_tree.proofs.DiscardLemmas.{discard_none, right_tree, top_live, discarded}
use Rattle.run_tree.proofs.tree.RunTree.+discard.Goals as goal

pub returns-then-self-eq0-clause-owned : goal.returns-then-self-eq0-clause-owned
returns-then-self-eq0-clause-owned t c = discard_none c.args.elements.now c.args.self c.requires.tree c.if-self-eq0.true

pub discard-requires-2 : goal.discard-requires-2
discard-requires-2 t c = (search rules, right_tree c.args.elements.now c.discard.new.elements c.discard.new.elements c.discard.new.elements c.args.self c.open-node.result c.open-node.ensures.opens c.discard.ensures.owned)

pub give-requires : goal.give-requires
give-requires t c = top_live c.args.elements.now c.discard.new.elements c.discard-2.new.elements c.discard-2.new.elements c.args.self c.open-node.result c.open-node.ensures.opens c.discard.ensures.owned c.discard-2.ensures.owned

pub returns-clause-owned : goal.returns-clause-owned
returns-clause-owned t c = discarded c.args.elements.now c.discard.new.elements c.discard-2.new.elements c.give.new.self c.args.self c.open-node.result c.open-node.ensures.opens c.discard.ensures.owned c.discard-2.ensures.owned c.give.ensures.updates c.give.ensures.spares
