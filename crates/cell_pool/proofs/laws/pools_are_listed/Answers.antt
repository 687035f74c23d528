use Rattle.cell_pool.proofs.LawLemmas.{pools_are_listed}
use Rattle.cell_pool.proofs.laws.pools_are_listed.Goals as goal

pub returns : goal.returns
returns c = pools_are_listed
