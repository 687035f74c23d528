use Rattle.storage_changes.proofs.CellsInTurn.{giving_back_cells_leads}
use Rattle.storage_changes.proofs.cells.giving_back_cells_leads.Goals as goal

pub returns : goal.returns
returns c = giving_back_cells_leads c.changed_pools_have_their_row.ensures
