use Rattle.std.proofs.Common.{◌≡◌, max, arith}
use Rattle.std.proofs.lemmas.Grind.{common_steps}
use Rattle.run_tree.specs.Shape.{room_of}
use Rattle.run_tree.proofs.SearchLemmas.{most_all, most_left, most_right, most_both}
use Rattle.run_tree.proofs.tree.RunTree.+most_room.Goals as goal

pub returns-then-to-self : goal.returns-then-to-self
returns-then-to-self t c = most_all c.args.elements.now c.args.self (room_of c.args.paged) c.args.from c.args.to c.longest_of.result c.requires.tree c.if-from-eq0.true c.if-to-self.true c.longest_of.ensures

pub returns-then-to-middle : goal.returns-then-to-middle
returns-then-to-middle t c = most_left c.args.elements.now c.args.self c.open-node.result c.open-node.ensures.opens c.requires.tree (room_of c.args.paged) c.args.from c.args.to c.most_room.result (omega (arith, c.if-to-middle.true)) c.most_room.ensures

pub returns-then-middle-from : goal.returns-then-middle-from
returns-then-middle-from t c = most_right c.args.elements.now c.args.self c.open-node.result c.open-node.ensures.opens c.requires.tree (room_of c.args.paged) c.args.from c.args.to c.most_room-then-middle-from.result c.if-middle-from.true c.most_room-then-middle-from.ensures

pub returns : goal.returns
returns t c =
    let m : max (max c.most_room-before.result (room_of c.args.paged c.open-node.result.run)) c.most_room-behind.result ≡ c.max-2.result = grind (arith, common_steps, c.max-2.ensures, c.max.ensures, c.room.ensures) in
    most_both c.args.elements.now c.args.self c.open-node.result c.open-node.ensures.opens c.requires.tree (room_of c.args.paged) c.args.from c.args.to c.most_room-before.result c.most_room-behind.result c.max-2.result (omega (arith, c.if-middle-from.false)) (omega (arith, c.if-to-middle.false)) c.requires.place.1 c.most_room-before.ensures c.most_room-behind.ensures m
