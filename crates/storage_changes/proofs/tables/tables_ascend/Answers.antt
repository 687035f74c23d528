use Rattle.storage_changes.proofs.TabledPools.{in_ascends}
use Rattle.storage_changes.proofs.tables.tables_ascend.Goals as goal

pub returns : goal.returns
returns c = in_ascends
