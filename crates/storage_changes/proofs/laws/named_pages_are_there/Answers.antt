use Rattle.storage_changes.proofs.MeaningLemmas.{named_pages_are_there}
use Rattle.storage_changes.proofs.laws.named_pages_are_there.Goals as goal

pub returns : goal.returns
returns c = named_pages_are_there
