use Rattle.storage_changes.proofs.TableChanges.{gone_pools_have_no_row}
use Rattle.storage_changes.proofs.tables.gone_pools_have_no_row.Goals as goal

pub returns : goal.returns
returns c = gone_pools_have_no_row
