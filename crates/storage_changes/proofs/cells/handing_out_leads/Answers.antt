use Rattle.storage_changes.proofs.CellsInTurn.{handing_out_leads}
use Rattle.storage_changes.proofs.cells.handing_out_leads.Goals as goal

pub returns : goal.returns
returns c = handing_out_leads c.changed_pools_have_their_row.ensures c.first_cell_is_used.ensures
