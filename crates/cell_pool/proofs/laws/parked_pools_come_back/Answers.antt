use Rattle.cell_pool.proofs.LawLemmas.{parked_pools_come_back}
use Rattle.cell_pool.proofs.laws.parked_pools_come_back.Goals as goal

pub returns : goal.returns
returns c = parked_pools_come_back
