use Rattle.std.proofs.Common.{ℕ, Some, sym, ap, ◌∙◌, get_or}
use Rattle.row_table.specs.RowTable.{row}
use Rattle.task_tree.specs.TaskTree.{IsTaskTree}
use Rattle.task_tree.proofs.QuarterLemmas.{id_in}
use Rattle.task_tree.proofs.tree.TaskTree.quarter_id.Goals as goal

pub returns : goal.returns
unfolding IsTaskTree
returns c =
    ap (λ (z : ℕ). Some (get_or c.args.self.now.quarters z 0)) c.from-2.ensures ∙ sym (c.requires.tree.quarters c.args.quarter c.requires.quarter)
    ∙ ap (λ (z : ℕ). id_in (row c.args.elements.now c.args.self.now.rows z c.args.quarter)) (sym c.if-task-self.false)
