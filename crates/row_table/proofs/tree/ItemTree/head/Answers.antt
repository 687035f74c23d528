use Rattle.std.proofs.Common.{refl}
use Rattle.row_table.proofs.tree.ItemTree.head.Goals as goal

pub returns : goal.returns
returns c = refl
