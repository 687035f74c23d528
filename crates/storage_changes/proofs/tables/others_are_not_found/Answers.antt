use Rattle.storage_changes.proofs.FoundPools.{others_are_not_found}
use Rattle.storage_changes.proofs.tables.others_are_not_found.Goals as goal

pub returns : goal.returns
returns c = others_are_not_found
