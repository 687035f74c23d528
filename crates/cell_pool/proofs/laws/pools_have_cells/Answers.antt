use Rattle.cell_pool.proofs.LawLemmas.{pools_have_cells}
use Rattle.cell_pool.proofs.laws.pools_have_cells.Goals as goal

pub returns : goal.returns
returns c = pools_have_cells
