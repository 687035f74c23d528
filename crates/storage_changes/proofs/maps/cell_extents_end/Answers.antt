use Rattle.storage_changes.proofs.CellEnds.{cell_extents_end}
use Rattle.storage_changes.proofs.maps.cell_extents_end.Goals as goal

pub returns : goal.returns
returns c = cell_extents_end c.pools_are_found.ensures
