use Rattle.std.proofs.Common.{refl}
use Rattle.vsm_model.specs.Releasing.{is_idle}
use Rattle.worked_examples.proofs.storage.both_sides_of_the_line.Goals as goal

pub returns : goal.returns
unfolding is_idle
returns c = (refl, refl)
