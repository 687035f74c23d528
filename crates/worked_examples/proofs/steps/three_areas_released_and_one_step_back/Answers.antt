use Rattle.std.proofs.Common.{refl}
use Rattle.vsm_model.specs.Releasing.{is_idle}
use Rattle.worked_examples.proofs.steps.three_areas_released_and_one_step_back.Goals as goal

pub returns : goal.returns
unfolding is_idle
returns c = refl
