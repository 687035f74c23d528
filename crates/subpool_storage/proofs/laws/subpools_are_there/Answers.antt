use Rattle.subpool_storage.proofs.LawLemmas.{subpools_are_there}
use Rattle.subpool_storage.proofs.laws.subpools_are_there.Goals as goal

pub returns : goal.returns
returns c = subpools_are_there
