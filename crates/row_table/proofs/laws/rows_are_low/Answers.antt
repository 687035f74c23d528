use Rattle.row_table.proofs.HalfLemmas.{rows_are_low}
use Rattle.row_table.proofs.laws.rows_are_low.Goals as goal

pub returns : goal.returns
returns c = rows_are_low
