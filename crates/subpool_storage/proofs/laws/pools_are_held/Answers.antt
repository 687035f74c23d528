use Rattle.subpool_storage.proofs.LawLemmas.{pools_are_held}
use Rattle.subpool_storage.proofs.laws.pools_are_held.Goals as goal

pub returns : goal.returns
returns c = pools_are_held
