use Rattle.std.proofs.Common.{Some, sym, ap, ◌∙◌}
use Rattle.row_table.specs.RowTable.{row}
use Rattle.task_tree.specs.Kept.{parents_in}
use Rattle.task_tree.specs.TaskTree.{parent}
use Rattle.task_tree.proofs.tree.TaskTree.check_detach.Goals as goal

pub returns-in-Some-clause-ok : goal.returns-in-Some-clause-ok
unfolding parent
returns-in-Some-clause-ok c =
    ap (parents_in (row c.args.elements.now c.args.self.now.rows)) (sym c.from.ensures) ∙ sym c.parent_in.ensures ∙ c.in-Some.is
    ∙ ap Some (c.if-parent-from.true ∙ c.from-in-Some-1.ensures)
