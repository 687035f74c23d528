use Rattle.std.proofs.Common.{ap, is_some, arith}
use Rattle.row_table.specs.RowTable.{row}
use Rattle.task_tree.specs.TaskTree.{parent, IsTaskTree}
use Rattle.task_tree.proofs.ParkLemmas.{parent_some}
use Rattle.task_tree.proofs.tree.TaskTree.check_end.Goals as goal

pub returns-clause-ok : goal.returns-clause-ok
unfolding parent IsTaskTree
returns-clause-ok c =
    (c.if-task-eq1.false, λ t was. c.loop-other.invariant t (omega (arith, c.loop-other-test.false, c.loop-other.auto.other-end, (c.requires.tree.tree.tasks.ranges t 0 (parent_some (row c.args.elements.now c.args.self.now.rows) t (ap is_some was))).1)) was)
