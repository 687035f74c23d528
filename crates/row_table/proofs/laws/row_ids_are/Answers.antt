use Rattle.row_table.proofs.RowIdLemmas.{row_ids_are}
use Rattle.row_table.proofs.laws.row_ids_are.Goals as goal

pub returns : goal.returns
returns c = row_ids_are
