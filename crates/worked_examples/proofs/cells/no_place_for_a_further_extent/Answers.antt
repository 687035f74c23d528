use Rattle.std.proofs.Common.{refl}
use Rattle.vsm_model.specs.Releasing.{is_idle}
use Rattle.worked_examples.proofs.cells.no_place_for_a_further_extent.Goals as goal

pub returns : goal.returns
unfolding is_idle
returns c = refl
