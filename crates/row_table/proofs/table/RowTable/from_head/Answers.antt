use Rattle.std.proofs.Common.{ap}
use Rattle.row_table.specs.RowTable.{table_of}
use Rattle.row_table.proofs.table.RowTable.from_head.Goals as goal

pub returns : goal.returns
unfolding table_of
returns c = ap (λ tree. record { tree = tree }) c.from_head.ensures
