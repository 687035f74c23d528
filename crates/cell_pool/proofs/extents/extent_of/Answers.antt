use Rattle.std.proofs.Common.{refl}
use Rattle.cell_pool.proofs.extents.extent_of.Goals as goal

pub returns : goal.returns
returns c = refl
