use Rattle.storage_changes.proofs.CellExtending.{extending_leads}
use Rattle.storage_changes.proofs.cells.extending_leads.Goals as goal

pub returns : goal.returns
returns c = extending_leads c.changed_pools_have_their_row.ensures c.pools_are_found.ensures
