use Rattle.storage_changes.proofs.FoundPools.{overlaps_are_met}
use Rattle.storage_changes.proofs.tables.overlaps_are_met.Goals as goal

pub returns : goal.returns
returns c = overlaps_are_met
