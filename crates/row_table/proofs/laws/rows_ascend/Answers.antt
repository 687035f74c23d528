use Rattle.row_table.proofs.TableLemmas.{rows_ascend}
use Rattle.row_table.proofs.laws.rows_ascend.Goals as goal

pub returns : goal.returns
returns c = rows_ascend
