use Rattle.storage_changes.proofs.CellBuilding.{building_leads}
use Rattle.storage_changes.proofs.cells.building_leads.Goals as goal

pub returns : goal.returns
returns c = building_leads c.new_pools_have_a_row.ensures
