use Rattle.cell_pool.proofs.LawLemmas.{ids_are_small}
use Rattle.cell_pool.proofs.laws.ids_are_small.Goals as goal

pub returns : goal.returns
returns c = ids_are_small
