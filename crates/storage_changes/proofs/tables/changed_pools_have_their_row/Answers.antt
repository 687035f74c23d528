use Rattle.storage_changes.proofs.TableChanges.{changed_pools_have_their_row}
use Rattle.storage_changes.proofs.tables.changed_pools_have_their_row.Goals as goal

pub returns : goal.returns
returns c = changed_pools_have_their_row
