use Rattle.std.proofs.Common.{length}
use Rattle.row_table.specs.RowTable.{rows}
use Rattle.cell_pool.proofs.places.+meets.Given as goal

abbrev pub decreases-meets : goal.decreases-meets
decreases-meets l = length (rows l.elements.now l.places)
