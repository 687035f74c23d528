use Rattle.std.proofs.Common.{ap, is_some, arith}
use Rattle.row_table.specs.RowTable.{row}
use Rattle.task_tree.proofs.ParkLemmas.{parent_some}
use Rattle.task_tree.proofs.moves.orphan.Goals as goal

pub returns-clause-none : goal.returns-clause-none
returns-clause-none c t p was other =
    c.loop-task.invariant t p (omega (arith, c.loop-task-test.false, c.loop-task.auto.task-end, (c.requires.tasks.ranges t 0 (parent_some (row c.args.elements.now c.args.rows.now) t (ap is_some was))).1)) was other
