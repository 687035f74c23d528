use Rattle.std.proofs.Common.{◌-◌, arith, refl, rules}
use Rattle.run_tree.proofs.TreeLemmas.{length-tree}
use Rattle.run_tree.proofs.BelowLemmas.{was_left, was_right, write_left_below, write_right_below}
use Rattle.run_tree.proofs.tree.RunTree.+exchange.Goals as goal

pub exchange-requires : goal.exchange-requires
exchange-requires t c = (search rules, (c.announce.ensures.opens.left, (c.if-k-middle.true, was_left c.args.elements.now c.announce.new.elements c.args.self c.open-node.result c.open-node.result.left.count c.in-Some.rooms c.of.result c.of-2.result c.announce.ensures c.args.k c.args.was (omega (arith, c.requires.place, length-tree c.args.elements.now c.args.self c.requires.tree)) c.requires.was c.open-node.ensures.rooms c.of.ensures c.in-Some.ensures c.if-k-middle.true)))

pub returns-then-k-middle : goal.returns-then-k-middle
returns-then-k-middle t c = write_left_below c.args.elements.now c.announce.new.elements c.args.self c.open-node.result c.open-node.result.left.count c.in-Some.rooms c.of.result c.of-2.result c.announce.ensures c.args.k c.args.was (omega (arith, c.requires.place, length-tree c.args.elements.now c.args.self c.requires.tree)) c.requires.was c.open-node.ensures.rooms c.of.ensures c.in-Some.ensures c.args.run c.of-2.ensures refl c.exchange.new.elements c.if-k-middle.true c.exchange.ensures

pub exchange-requires-then-k-middle-2 : goal.exchange-requires-then-k-middle-2
exchange-requires-then-k-middle-2 t c = (search rules, (c.announce-then-k-middle-2.ensures.opens.right, (omega (arith, c.requires.place, c.if-k-middle-2.true, c.open-node.ensures.opens.count), was_right c.args.elements.now c.announce-then-k-middle-2.new.elements c.args.self c.open-node.result c.open-node.result.left.count c.in-Some.rooms c.of.result c.of-2.result c.announce-then-k-middle-2.ensures c.args.k c.args.was (omega (arith, c.requires.place, length-tree c.args.elements.now c.args.self c.requires.tree)) c.requires.was c.open-node.ensures.rooms c.of.ensures c.in-Some.ensures (c.args.k - c.open-node.result.left.count - 1) (omega (arith, c.if-k-middle-2.true)) (omega (arith, c.requires.place, c.if-k-middle-2.true, c.open-node.ensures.opens.count)))))

pub returns-then-k-middle-2 : goal.returns-then-k-middle-2
returns-then-k-middle-2 t c = write_right_below c.args.elements.now c.announce-then-k-middle-2.new.elements c.args.self c.open-node.result c.open-node.result.left.count c.in-Some.rooms c.of.result c.of-2.result c.announce-then-k-middle-2.ensures c.args.k c.args.was (omega (arith, c.requires.place, length-tree c.args.elements.now c.args.self c.requires.tree)) c.requires.was c.open-node.ensures.rooms c.of.ensures c.in-Some.ensures c.args.run c.of-2.ensures refl c.exchange-then-k-middle-2.new.elements (c.args.k - c.open-node.result.left.count - 1) c.if-k-middle-2.true refl c.exchange-then-k-middle-2.ensures
