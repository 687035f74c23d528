use Rattle.storage_changes.proofs.CellDeleting.{deleting_leads}
use Rattle.storage_changes.proofs.cells.deleting_leads.Goals as goal

pub returns : goal.returns
returns c = deleting_leads c.gone_pools_have_no_row.ensures c.pools_are_found.ensures
