use Rattle.cell_pool.proofs.LawLemmas.{pools_stay}
use Rattle.cell_pool.proofs.laws.pools_stay.Goals as goal

pub returns : goal.returns
returns c = pools_stay
