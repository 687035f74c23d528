use Rattle.storage_changes.proofs.MeaningLemmas.{free_storage_is_free}
use Rattle.storage_changes.proofs.laws.free_storage_is_free.Goals as goal

pub returns : goal.returns
returns c = free_storage_is_free
