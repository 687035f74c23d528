use Rattle.cell_pool.proofs.LawLemmas.{growth_keeps_pools}
use Rattle.cell_pool.proofs.laws.growth_keeps_pools.Goals as goal

pub returns : goal.returns
returns c = growth_keeps_pools
