use Rattle.cell_pool.proofs.LawLemmas.{names_are_single}
use Rattle.cell_pool.proofs.laws.names_are_single.Goals as goal

pub returns : goal.returns
returns c = names_are_single
