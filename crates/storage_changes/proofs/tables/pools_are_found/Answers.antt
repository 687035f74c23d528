use Rattle.storage_changes.proofs.FoundPools.{pools_are_found}
use Rattle.storage_changes.proofs.tables.pools_are_found.Goals as goal

pub returns : goal.returns
returns c = pools_are_found
