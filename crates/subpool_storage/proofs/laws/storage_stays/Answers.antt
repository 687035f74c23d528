use Rattle.subpool_storage.proofs.LawLemmas.{storage_stays}
use Rattle.subpool_storage.proofs.laws.storage_stays.Goals as goal

pub returns : goal.returns
returns c = storage_stays
