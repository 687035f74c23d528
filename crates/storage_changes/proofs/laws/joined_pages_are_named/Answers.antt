use Rattle.storage_changes.proofs.MeaningLemmas.{joined_pages_are_named}
use Rattle.storage_changes.proofs.laws.joined_pages_are_named.Goals as goal

pub returns : goal.returns
returns c = joined_pages_are_named
