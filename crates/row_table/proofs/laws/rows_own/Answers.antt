use Rattle.row_table.proofs.HalfLemmas.{rows_own}
use Rattle.row_table.proofs.laws.rows_own.Goals as goal

pub returns : goal.returns
returns c = rows_own
