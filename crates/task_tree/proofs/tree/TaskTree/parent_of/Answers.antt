use Rattle.std.proofs.Common.{◌≤◌, sym, ◌∙◌, arith}
use Rattle.row_table.specs.RowTable.{row}
use Rattle.task_tree.specs.TaskTree.{IsTaskTree}
use Rattle.task_tree.proofs.ParkLemmas.{parent_low}
use Rattle.task_tree.proofs.tree.TaskTree.parent_of.Goals as goal

pub overflow_cast-result : goal.overflow_cast-result
unfolding IsTaskTree
overflow_cast-result c =
    let low : c.in_ok-parent.parent ≤ 64 =
    parent_low (row c.args.elements.now c.args.self.now.rows) c.requires.tree c.from.result c.in_ok-parent.parent
    (sym c.parent_in.ensures ∙ c.in_ok-parent.was) in
    omega (arith, low)
