use Rattle.std.proofs.Common.{◌+◌, ◌-◌, ◌∙◌, arith, refl, rules}
use Rattle.run_tree.proofs.PutLemmas.{out_left, out_right, right_tree, up_distinct, up_live, put_before, left_tree, up_distinct', up_live', put_behind}
use Rattle.run_tree.proofs.BelowLemmas.{live_then, apart_left, apart_right, put_left_below, put_right_below, put_head}
use Rattle.run_tree.proofs.tree.RunTree.+put.Goals as goal

pub put-requires : goal.put-requires
put-requires t c = (search rules, (c.announce.ensures.opens.left, (c.stays.ensures c.if-stays.true, (omega (arith, c.if-k-middle.true), (live_then c.args.elements.now c.announce.new.elements c.args.self c.open-node.result (c.open-node.result.left.count + 1) c.with-rooms.result c.of.result c.announce.ensures c.args.id c.args.run c.requires.live c.requires.apart c.open-node.ensures.rooms c.of.ensures c.with-rooms.ensures, apart_left c.args.elements.now c.announce.new.elements c.args.self c.open-node.result (c.open-node.result.left.count + 1) c.with-rooms.result c.of.result c.announce.ensures c.args.id c.args.run c.requires.live c.requires.apart c.open-node.ensures.rooms c.of.ensures c.with-rooms.ensures)))))

pub put_over-left-requires-clause-apart : goal.put_over-left-requires-clause-apart
put_over-left-requires-clause-apart t c = out_left c.args.elements.now c.args.self c.open-node.result c.open-node.ensures.opens c.args.id c.args.run c.requires.live c.requires.apart

pub join-head-requires-clause-right : goal.join-head-requires-clause-right
join-head-requires-clause-right t c = right_tree c.args.elements.now c.args.self c.open-node.result c.open-node.ensures.opens c.args.id c.args.run c.requires.live c.requires.apart c.args.k (omega (arith, c.if-k-middle.true)) c.put_over-left.new.elements c.put_over-left.result c.put_over-left.ensures

pub join-head-requires-clause-distinct : goal.join-head-requires-clause-distinct
join-head-requires-clause-distinct t c = up_distinct c.args.elements.now c.args.self c.open-node.result c.open-node.ensures.opens c.args.id c.args.run c.requires.live c.requires.apart c.args.k (omega (arith, c.if-k-middle.true)) c.put_over-left.new.elements c.put_over-left.result c.put_over-left.ensures

pub join-head-requires-clause-live : goal.join-head-requires-clause-live
join-head-requires-clause-live t c = up_live c.args.elements.now c.args.self c.open-node.result c.open-node.ensures.opens c.args.id c.args.run c.requires.live c.requires.apart c.args.k (omega (arith, c.if-k-middle.true)) c.put_over-left.new.elements c.put_over-left.result c.put_over-left.ensures

pub put-requires-then-stays-2 : goal.put-requires-then-stays-2
put-requires-then-stays-2 t c = (search rules, (c.announce-then-stays-2.ensures.opens.right, (c.stays-else-k-middle.ensures c.if-stays-2.true, (omega (arith, c.if-k-middle.false, c.requires.place, c.open-node.ensures.opens.count), (live_then c.args.elements.now c.announce-then-stays-2.new.elements c.args.self c.open-node.result c.open-node.result.left.count c.with-rooms.result c.of.result c.announce-then-stays-2.ensures c.args.id c.args.run c.requires.live c.requires.apart c.open-node.ensures.rooms c.of.ensures c.with-rooms.ensures, apart_right c.args.elements.now c.announce-then-stays-2.new.elements c.args.self c.open-node.result c.open-node.result.left.count c.with-rooms.result c.of.result c.announce-then-stays-2.ensures c.args.id c.args.run c.requires.live c.requires.apart c.open-node.ensures.rooms c.of.ensures c.with-rooms.ensures)))))

pub put_over-right-requires-clause-apart : goal.put_over-right-requires-clause-apart
put_over-right-requires-clause-apart t c = out_right c.args.elements.now c.args.self c.open-node.result c.open-node.ensures.opens c.args.id c.args.run c.requires.live c.requires.apart

pub join-head-requires-else-stays-2-clause-left : goal.join-head-requires-else-stays-2-clause-left
join-head-requires-else-stays-2-clause-left t c = left_tree c.args.elements.now c.args.self c.open-node.result c.open-node.ensures.opens c.args.id c.args.run c.requires.live c.requires.apart c.args.k (c.args.k - c.open-node.result.left.count - 1) (omega (arith, c.if-k-middle.false)) refl c.put_over-right.new.elements c.put_over-right.result c.put_over-right.ensures

pub join-head-requires-else-stays-2-clause-distinct : goal.join-head-requires-else-stays-2-clause-distinct
join-head-requires-else-stays-2-clause-distinct t c = up_distinct' c.args.elements.now c.args.self c.open-node.result c.open-node.ensures.opens c.args.id c.args.run c.requires.live c.requires.apart c.args.k (c.args.k - c.open-node.result.left.count - 1) (omega (arith, c.if-k-middle.false)) refl c.put_over-right.new.elements c.put_over-right.result c.put_over-right.ensures

pub join-head-requires-else-stays-2-clause-live : goal.join-head-requires-else-stays-2-clause-live
join-head-requires-else-stays-2-clause-live t c = up_live' c.args.elements.now c.args.self c.open-node.result c.open-node.ensures.opens c.args.id c.args.run c.requires.live c.requires.apart c.args.k (c.args.k - c.open-node.result.left.count - 1) (omega (arith, c.if-k-middle.false)) refl c.put_over-right.new.elements c.put_over-right.result c.put_over-right.ensures

pub returns-then-stays : goal.returns-then-stays
returns-then-stays t c = put_left_below c.args.elements.now c.announce.new.elements c.args.self c.open-node.result (c.open-node.result.left.count + 1) c.with-rooms.result c.of.result c.announce.ensures c.args.id c.args.run c.requires.live c.requires.apart c.open-node.ensures.rooms c.of.ensures c.with-rooms.ensures c.put.new.elements c.args.k refl (omega (arith, c.if-k-middle.true)) c.put.ensures

pub returns-else-stays : goal.returns-else-stays
returns-else-stays t c = put_head c.args.elements.now c.join-head.new.elements c.args.self c.join-head.result c.args.k c.args.id c.args.run (c.join-head.ensures.root ∙ c.open-node.ensures.opens.root)
    (put_before c.args.elements.now c.args.self c.open-node.result c.open-node.ensures.opens c.args.id c.args.run c.requires.live c.requires.apart c.args.k (omega (arith, c.if-k-middle.true)) c.put_over-left.new.elements c.put_over-left.result c.put_over-left.ensures c.join-head.new.elements c.join-head.result c.join-head.ensures)

pub returns-then-stays-2 : goal.returns-then-stays-2
returns-then-stays-2 t c = put_right_below c.args.elements.now c.announce-then-stays-2.new.elements c.args.self c.open-node.result c.open-node.result.left.count c.with-rooms.result c.of.result c.announce-then-stays-2.ensures c.args.id c.args.run c.requires.live c.requires.apart c.open-node.ensures.rooms c.of.ensures c.with-rooms.ensures c.put-then-stays-2.new.elements c.args.k (c.args.k - c.open-node.result.left.count - 1) refl (omega (arith, c.if-k-middle.false)) refl c.put-then-stays-2.ensures

pub returns-else-stays-2 : goal.returns-else-stays-2
returns-else-stays-2 t c = put_head c.args.elements.now c.join-head-else-stays-2.new.elements c.args.self c.join-head-else-stays-2.result c.args.k c.args.id c.args.run (c.join-head-else-stays-2.ensures.root ∙ c.open-node.ensures.opens.root)
    (put_behind c.args.elements.now c.args.self c.open-node.result c.open-node.ensures.opens c.args.id c.args.run c.requires.live c.requires.apart c.args.k (c.args.k - c.open-node.result.left.count - 1) (omega (arith, c.if-k-middle.false)) refl c.put_over-right.new.elements c.put_over-right.result c.put_over-right.ensures c.join-head-else-stays-2.new.elements c.join-head-else-stays-2.result c.join-head-else-stays-2.ensures)
