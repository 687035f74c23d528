use Rattle.storage_changes.proofs.EndCounts.{ends_are_short}
use Rattle.storage_changes.proofs.tasks.ends_are_short.Goals as goal

pub returns : goal.returns
returns c = ends_are_short
