use Rattle.storage_changes.proofs.TableChanges.{new_pools_have_a_row}
use Rattle.storage_changes.proofs.tables.new_pools_have_a_row.Goals as goal

pub returns : goal.returns
returns c = new_pools_have_a_row
