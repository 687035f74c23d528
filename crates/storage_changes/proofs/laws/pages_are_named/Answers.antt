use Rattle.storage_changes.proofs.MeaningLemmas.{pages_are_named}
use Rattle.storage_changes.proofs.laws.pages_are_named.Goals as goal

pub returns : goal.returns
returns c = pages_are_named
