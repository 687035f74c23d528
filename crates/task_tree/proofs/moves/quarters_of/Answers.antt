use Rattle.row_table.specs.RowTable.{row}
use Rattle.task_tree.proofs.QuarterLemmas.{four_quarters}
use Rattle.task_tree.proofs.moves.quarters_of.Goals as goal

pub returns : goal.returns
returns c = four_quarters (row c.args.elements.now c.args.rows.now) c.args.task _ _ _ _ c.id_at-first.ensures c.id_at-second.ensures c.id_at-third.ensures c.id_at-fourth.ensures
