use Rattle.std.proofs.Common.{◌≡◌, rules, ap, length}
use Rattle.row_table.specs.Trees.{count}
use Rattle.row_table.proofs.DiscardLemmas.{discard_none, right_tree, right_owned, top_live, discarded}
use Rattle.row_table.proofs.tree.ItemTree.+discard.Goals as goal

pub returns-then-self-eq0 : goal.returns-then-self-eq0
returns-then-self-eq0 t c = discard_none c.args.elements.now c.args.self c.requires.tree c.if-self-eq0.true

pub discard-requires-2 : goal.discard-requires-2
discard-requires-2 t c =
    let e : count c.discard.new.elements c.open-node.result.right ≡ count c.args.elements.now c.open-node.result.right = ap length (right_owned c.args.elements.now c.discard.new.elements c.discard.new.elements c.discard.new.elements c.args.self c.open-node.result c.open-node.ensures c.discard.ensures) in
    (search rules, right_tree c.args.elements.now c.discard.new.elements c.discard.new.elements c.discard.new.elements c.args.self c.open-node.result c.open-node.ensures c.discard.ensures)

pub give-requires : goal.give-requires
give-requires t c = top_live c.args.elements.now c.discard.new.elements c.discard-2.new.elements c.discard-2.new.elements c.args.self c.open-node.result c.open-node.ensures c.discard.ensures c.discard-2.ensures

pub returns : goal.returns
returns t c = discarded c.args.elements.now c.discard.new.elements c.discard-2.new.elements c.give.new.self c.args.self c.open-node.result c.open-node.ensures c.discard.ensures c.discard-2.ensures c.give.ensures.updates c.give.ensures.spares
