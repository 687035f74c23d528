use Rattle.cell_pool.proofs.LawLemmas.{retracts_back}
use Rattle.cell_pool.proofs.laws.retracts_back.Goals as goal

pub returns : goal.returns
returns c = retracts_back
