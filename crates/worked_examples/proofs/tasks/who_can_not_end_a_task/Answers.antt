use Rattle.std.proofs.Common.{refl}
use Rattle.vsm_model.specs.Releasing.{is_idle}
use Rattle.worked_examples.proofs.tasks.who_can_not_end_a_task.Goals as goal

pub returns : goal.returns
unfolding is_idle
returns c = refl
