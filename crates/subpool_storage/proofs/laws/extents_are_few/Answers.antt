use Rattle.subpool_storage.proofs.ExtentLemmas.{extents_are_few}
use Rattle.subpool_storage.proofs.laws.extents_are_few.Goals as goal

pub returns : goal.returns
returns c = extents_are_few
