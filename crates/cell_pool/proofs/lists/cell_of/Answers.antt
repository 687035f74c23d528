use Rattle.std.proofs.Common.{refl}
use Rattle.cell_pool.proofs.lists.cell_of.Goals as goal

pub returns-clause-cell : goal.returns-clause-cell
returns-clause-cell c = refl
