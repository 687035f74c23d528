use Rattle.row_table.specs.RowTable.{owned}
use Rattle.row_table.proofs.table.RowTable.discard.Goals as goal

pub returns : goal.returns
unfolding owned
returns c = assumption
