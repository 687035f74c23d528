use Rattle.std.proofs.Common.{length}
use Rattle.row_table.specs.RowTable.{rows}
use Rattle.subpool_set.proofs.sharers.+is_shared_in.Given as goal

abbrev pub decreases-is_shared_in : goal.decreases-is_shared_in
decreases-is_shared_in l = length (rows l.elements.now l.table)
