use Rattle.std.proofs.Common.{refl, arith}
use Rattle.row_table.specs.RowTable.{place_index, IsPlace}
use Rattle.row_table.proofs.table.RowTable.first_place.Goals as goal

pub returns-clause-place : goal.returns-clause-place
unfolding IsPlace
returns-clause-place c s q = record { within = omega arith; behind = refl }

pub returns-clause-index : goal.returns-clause-index
unfolding place_index
returns-clause-index c = refl
