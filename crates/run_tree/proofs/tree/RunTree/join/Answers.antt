use Rattle.std.proofs.Common.{◌+◌, ◌≤◌, arith}
use Rattle.run_tree.proofs.TreeLemmas.{room_for}
use Rattle.run_tree.proofs.tree.RunTree.join.Goals as goal

pub overflow_add-result : goal.overflow_add-result
overflow_add-result c =
    let h : c.args.left.count + c.args.right.count + 1 ≤ 4294967040 = room_for c.args.elements.now c.args.left c.args.id c.args.right c.requires.left c.requires.right c.requires.distinct c.requires.live c.ids_in_range.ensures in
    omega arith

pub overflow_add-result-2 : goal.overflow_add-result-2
overflow_add-result-2 c =
    let h : c.args.left.count + c.args.right.count + 1 ≤ 4294967040 = room_for c.args.elements.now c.args.left c.args.id c.args.right c.requires.left c.requires.right c.requires.distinct c.requires.live c.ids_in_range.ensures in
    omega arith
