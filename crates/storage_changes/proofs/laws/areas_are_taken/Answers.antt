use Rattle.storage_changes.proofs.MeaningLemmas.{areas_are_taken}
use Rattle.storage_changes.proofs.laws.areas_are_taken.Goals as goal

pub returns : goal.returns
returns c = areas_are_taken
