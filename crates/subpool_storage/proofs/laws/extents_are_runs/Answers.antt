use Rattle.subpool_storage.proofs.ExtentLemmas.{extents_are_runs}
use Rattle.subpool_storage.proofs.laws.extents_are_runs.Goals as goal

pub returns : goal.returns
returns c = extents_are_runs
