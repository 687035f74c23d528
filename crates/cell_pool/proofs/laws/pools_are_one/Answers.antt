use Rattle.cell_pool.proofs.LawLemmas.{pools_are_one}
use Rattle.cell_pool.proofs.laws.pools_are_one.Goals as goal

pub returns : goal.returns
returns c = pools_are_one
