use Rattle.std.proofs.Common.{ap, is_some}
use Rattle.row_table.specs.RowTable.{row}
use Rattle.task_tree.specs.TaskTree.{IsTaskTree}
use Rattle.task_tree.proofs.AttachLemmas.{first_tree, first_parents}
use Rattle.task_tree.proofs.tree.TaskTree.new.Goals as goal

pub returns-clause-tree : goal.returns-clause-tree
unfolding IsTaskTree
returns-clause-tree c = record {
  table = c.add_task.ensures.table;
  tree = first_tree (row c.args.elements.now c.new-rows.result) (row c.add_task.new.elements c.add_task.new.rows) (c.new-rows.ensures.empty c.args.elements.now) c.add_task.ensures.rows;
  running = ap is_some (first_parents (row c.args.elements.now c.new-rows.result) (row c.add_task.new.elements c.add_task.new.rows) (c.new-rows.ensures.empty c.args.elements.now) c.add_task.ensures.rows 1);
  quarters = c.quarters_of-quarters.ensures;
}
