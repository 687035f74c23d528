use Rattle.cell_pool.proofs.LawLemmas.{pools_own}
use Rattle.cell_pool.proofs.laws.pools_own.Goals as goal

pub returns : goal.returns
returns c = pools_own
