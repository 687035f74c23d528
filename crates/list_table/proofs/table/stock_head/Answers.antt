use Rattle.std.proofs.Common.{refl}
use Rattle.list_table.proofs.table.stock_head.Goals as goal

pub returns : goal.returns
returns c = rw c.from_head.ensures (rw c.from_head-2.ensures (rw c.from_head-3.ensures refl))
