use Rattle.std.proofs.Common.{refl}
use Rattle.row_table.specs.RowTable.{id_before}
use Rattle.row_table.proofs.places.RowPlace.row_before.Goals as goal

pub returns : goal.returns
unfolding id_before
returns c = refl
