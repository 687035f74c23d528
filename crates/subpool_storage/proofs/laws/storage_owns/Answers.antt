use Rattle.subpool_storage.proofs.LawLemmas.{storage_owns}
use Rattle.subpool_storage.proofs.laws.storage_owns.Goals as goal

pub returns : goal.returns
returns c = storage_owns
