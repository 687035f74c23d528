use Rattle.std.proofs.Common.{refl, arith}
use Rattle.run_set.specs.RunSet.{place_index, IsPlace}
use Rattle.run_set.proofs.set.RunSet.first_place.Goals as goal

pub returns-clause-place : goal.returns-clause-place
unfolding IsPlace
returns-clause-place c s q = record { within = omega arith }

pub returns-clause-index : goal.returns-clause-index
unfolding place_index
returns-clause-index c = refl
