use Rattle.subpool_storage.proofs.ExtentLemmas.{free_areas_are_runs}
use Rattle.subpool_storage.proofs.laws.free_areas_are_runs.Goals as goal

pub returns : goal.returns
returns c = free_areas_are_runs
