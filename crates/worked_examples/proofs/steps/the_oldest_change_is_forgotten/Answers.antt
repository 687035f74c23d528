use Rattle.std.proofs.Common.{refl}
use Rattle.vsm_model.specs.Releasing.{is_idle}
use Rattle.worked_examples.proofs.steps.the_oldest_change_is_forgotten.Goals as goal

pub returns : goal.returns
unfolding is_idle
returns c = refl
