use Rattle.std.proofs.Common.{◌-◌, arith, refl}
use Rattle.run_tree.proofs.WriteLemmas.{write_here, right_tree, up_distinct, up_live, up_linked, write_left, left_tree, left_rooms, up_distinct', up_live', up_linked', write_right}
use Rattle.run_tree.proofs.tree.RunTree.+rewrite.Goals as goal

pub rooms-behind-requires : goal.rooms-behind-requires
rooms-behind-requires t c = record { tree = right_tree c.args.elements.now c.args.self c.open-node.result c.open-node.ensures.opens c.args.k c.args.run c.if-k-middle.true c.rewrite-before.new.elements c.rewrite-before.ensures.writes }

pub renew-requires-clause-right : goal.renew-requires-clause-right
renew-requires-clause-right t c = right_tree c.args.elements.now c.args.self c.open-node.result c.open-node.ensures.opens c.args.k c.args.run c.if-k-middle.true c.rewrite-before.new.elements c.rewrite-before.ensures.writes

pub renew-requires-clause-distinct : goal.renew-requires-clause-distinct
renew-requires-clause-distinct t c = up_distinct c.args.elements.now c.args.self c.open-node.result c.open-node.ensures.opens c.args.k c.args.run c.if-k-middle.true c.rewrite-before.new.elements c.rewrite-before.ensures.writes

pub renew-requires-clause-live : goal.renew-requires-clause-live
renew-requires-clause-live t c = up_live c.args.elements.now c.args.self c.open-node.result c.open-node.ensures.opens c.args.k c.args.run c.if-k-middle.true c.rewrite-before.new.elements c.rewrite-before.ensures.writes

pub renew-requires-clause-linked : goal.renew-requires-clause-linked
renew-requires-clause-linked t c = up_linked c.args.elements.now c.args.self c.open-node.result c.open-node.ensures.opens c.args.k c.args.run c.if-k-middle.true c.rewrite-before.new.elements c.rewrite-before.ensures.writes c.open-node.ensures.linked

pub renew-requires-else-k-middle-2-clause-left : goal.renew-requires-else-k-middle-2-clause-left
renew-requires-else-k-middle-2-clause-left t c = left_tree c.args.elements.now c.args.self c.open-node.result c.open-node.ensures.opens c.args.k c.args.run (c.args.k - c.open-node.result.left.count - 1) (omega (arith, c.if-k-middle.false, c.if-k-middle-2.false)) refl c.rewrite-behind.new.elements c.rewrite-behind.ensures.writes

pub renew-requires-else-k-middle-2-clause-distinct : goal.renew-requires-else-k-middle-2-clause-distinct
renew-requires-else-k-middle-2-clause-distinct t c = up_distinct' c.args.elements.now c.args.self c.open-node.result c.open-node.ensures.opens c.args.k c.args.run (c.args.k - c.open-node.result.left.count - 1) (omega (arith, c.if-k-middle.false, c.if-k-middle-2.false)) refl c.rewrite-behind.new.elements c.rewrite-behind.ensures.writes

pub renew-requires-else-k-middle-2-clause-live : goal.renew-requires-else-k-middle-2-clause-live
renew-requires-else-k-middle-2-clause-live t c = up_live' c.args.elements.now c.args.self c.open-node.result c.open-node.ensures.opens c.args.k c.args.run (c.args.k - c.open-node.result.left.count - 1) (omega (arith, c.if-k-middle.false, c.if-k-middle-2.false)) refl c.rewrite-behind.new.elements c.rewrite-behind.ensures.writes

pub renew-requires-else-k-middle-2-clause-linked : goal.renew-requires-else-k-middle-2-clause-linked
renew-requires-else-k-middle-2-clause-linked t c = up_linked' c.args.elements.now c.args.self c.open-node.result c.open-node.ensures.opens c.args.k c.args.run (c.args.k - c.open-node.result.left.count - 1) (omega (arith, c.if-k-middle.false, c.if-k-middle-2.false)) refl c.rewrite-behind.new.elements c.rewrite-behind.ensures.writes c.open-node.ensures.linked

pub renew-requires-else-k-middle-2-clause-before : goal.renew-requires-else-k-middle-2-clause-before
renew-requires-else-k-middle-2-clause-before t c = left_rooms c.args.elements.now c.args.self c.open-node.result c.open-node.ensures.opens c.args.k c.args.run (c.args.k - c.open-node.result.left.count - 1) (omega (arith, c.if-k-middle.false, c.if-k-middle-2.false)) refl c.rewrite-behind.new.elements c.rewrite-behind.ensures.writes c.rooms-before.result (c.rooms-before.ensures.plain, c.rooms-before.ensures.paged, c.rooms-before.ensures.total)

pub returns-then-k-middle-clause-writes : goal.returns-then-k-middle-clause-writes
returns-then-k-middle-clause-writes t c = write_left c.args.elements.now c.args.self c.open-node.result c.open-node.ensures.opens c.args.k c.args.run c.if-k-middle.true c.rewrite-before.new.elements c.rewrite-before.ensures.writes c.renew.new.elements c.renew.ensures.joins

pub returns-then-k-middle-2-clause-writes : goal.returns-then-k-middle-2-clause-writes
returns-then-k-middle-2-clause-writes t c = write_here c.args.elements.now c.args.self c.open-node.result c.open-node.ensures.opens c.args.k c.args.run c.fill.new.elements c.if-k-middle-2.true c.fill.ensures.joins

pub returns-else-k-middle-2-clause-writes : goal.returns-else-k-middle-2-clause-writes
returns-else-k-middle-2-clause-writes t c = write_right c.args.elements.now c.args.self c.open-node.result c.open-node.ensures.opens c.args.k c.args.run (c.args.k - c.open-node.result.left.count - 1) (omega (arith, c.if-k-middle.false, c.if-k-middle-2.false)) refl c.rewrite-behind.new.elements c.rewrite-behind.ensures.writes c.renew-else-k-middle-2.new.elements c.renew-else-k-middle-2.ensures.joins
