use Rattle.storage_changes.proofs.MeaningLemmas.{areas_are_freed}
use Rattle.storage_changes.proofs.laws.areas_are_freed.Goals as goal

pub returns : goal.returns
returns c = areas_are_freed
