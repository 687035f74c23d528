use Rattle.cell_pool.proofs.LawLemmas.{pools_kept}
use Rattle.cell_pool.proofs.laws.pools_kept.Goals as goal

pub returns : goal.returns
returns c = pools_kept
