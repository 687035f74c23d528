use Rattle.std.proofs.Common.{refl}
use Rattle.vsm_model.specs.Releasing.{is_idle}
use Rattle.worked_examples.proofs.steps.an_answer_of_4_is_kept.Goals as goal

pub returns : goal.returns
unfolding is_idle
returns c = (refl, refl, refl, refl, refl)
