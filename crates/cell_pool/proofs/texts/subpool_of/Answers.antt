use Rattle.std.proofs.Common.{refl}
use Rattle.cell_pool.proofs.texts.subpool_of.Goals as goal

pub returns : goal.returns
returns c = rw c.low_byte.ensures (rw c.low_byte-2.ensures refl)
