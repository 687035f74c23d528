use Rattle.std.proofs.Common.{refl}
use Rattle.list_table.proofs.table.row_words.Goals as goal

pub returns-clause-head : goal.returns-clause-head
returns-clause-head c = rw c.head-used.ensures (rw c.head-extents.ensures (rw c.head-places.ensures refl))
