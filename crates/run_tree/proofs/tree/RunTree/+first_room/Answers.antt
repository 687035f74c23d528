use Rattle.std.proofs.Common.{◌≡◌, ◌+◌, ◌≤◌, length, arith}
use Rattle.run_tree.specs.Shape.{room_of}
use Rattle.run_tree.specs.Trees.{runs}
use Rattle.run_tree.proofs.TreeLemmas.{length-tree}
use Rattle.run_tree.proofs.SearchLemmas.{rooms_end, rooms_short, rooms_left, rooms_here, rooms_over, rooms_right}
use Rattle.run_tree.proofs.tree.RunTree.+first_room.Goals as goal

pub returns-then-from-self : goal.returns-then-from-self
returns-then-from-self t c = rooms_end c.args.elements.now c.args.self (room_of c.args.paged) c.args.from c.args.len c.requires.tree c.if-from-self.true

pub returns-then-longest_of-len : goal.returns-then-longest_of-len
returns-then-longest_of-len t c = rooms_short c.args.elements.now c.args.self (room_of c.args.paged) c.args.from c.args.len c.requires.tree c.requires.place (omega (arith, c.longest_of.ensures, c.if-longest_of-len.true))

pub overflow_add-result-then-middle-from : goal.overflow_add-result-then-middle-from
overflow_add-result-then-middle-from t c =
    let len : length (runs c.args.elements.now c.open-node.result.right) ≡ c.open-node.result.right.count = length-tree c.args.elements.now c.open-node.result.right c.open-node.ensures.opens.right in
    let rest : c.first_room-rest.result ≤ length (runs c.args.elements.now c.open-node.result.right) = c.first_room-rest.ensures.within in
    let all : c.args.self.count ≡ c.open-node.result.left.count + c.open-node.result.right.count + 1 = c.open-node.ensures.opens.count in
    omega arith

pub returns-then-middle-from : goal.returns-then-middle-from
returns-then-middle-from t c = rooms_right c.args.elements.now c.args.self c.open-node.result c.open-node.ensures.opens c.requires.tree (room_of c.args.paged) c.args.from c.args.len c.first_room-rest.result c.if-middle-from.true c.first_room-rest.ensures

pub returns-then-place-middle : goal.returns-then-place-middle
returns-then-place-middle t c = rooms_left c.args.elements.now c.args.self c.open-node.result c.open-node.ensures.opens c.requires.tree (room_of c.args.paged) c.args.from c.args.len c.first_room-place.result c.first_room-place.ensures c.if-place-middle.true

pub returns-then-room-len : goal.returns-then-room-len
returns-then-room-len t c =
    rooms_here c.args.elements.now c.args.self c.open-node.result c.open-node.ensures.opens c.requires.tree (room_of c.args.paged) c.args.from c.args.len c.first_room-place.result (omega (arith, c.if-middle-from.false)) c.first_room-place.ensures (omega (arith, c.if-place-middle.false)) (omega (arith, c.room.ensures, c.if-room-len.true))

pub overflow_add-result-3 : goal.overflow_add-result-3
overflow_add-result-3 t c =
    let len : length (runs c.args.elements.now c.open-node.result.right) ≡ c.open-node.result.right.count = length-tree c.args.elements.now c.open-node.result.right c.open-node.ensures.opens.right in
    let rest : c.first_room-rest-2.result ≤ length (runs c.args.elements.now c.open-node.result.right) = c.first_room-rest-2.ensures.within in
    let all : c.args.self.count ≡ c.open-node.result.left.count + c.open-node.result.right.count + 1 = c.open-node.ensures.opens.count in
    omega arith

pub returns : goal.returns
returns t c =
    rooms_over c.args.elements.now c.args.self c.open-node.result c.open-node.ensures.opens c.requires.tree (room_of c.args.paged) c.args.from c.args.len c.first_room-place.result c.first_room-rest-2.result (omega (arith, c.if-middle-from.false)) c.first_room-place.ensures (omega (arith, c.if-place-middle.false)) (omega (arith, c.room.ensures, c.if-room-len.false)) c.first_room-rest-2.ensures
