use Rattle.std.proofs.Common.{length}
use Rattle.row_table.specs.RowTable.{rows}
use Rattle.subpool_set.proofs.sharers.+sharer_among.Given as goal

abbrev pub decreases-sharer_among : goal.decreases-sharer_among
decreases-sharer_among l = length (rows l.elements.now l.table)
