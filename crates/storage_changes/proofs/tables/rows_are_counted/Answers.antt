use Rattle.storage_changes.proofs.FoundPools.{rows_are_counted}
use Rattle.storage_changes.proofs.tables.rows_are_counted.Goals as goal

pub returns : goal.returns
returns c = rows_are_counted
