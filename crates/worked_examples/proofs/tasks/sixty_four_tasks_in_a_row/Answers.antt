use Rattle.std.proofs.Common.{refl}
use Rattle.vsm_model.specs.Releasing.{is_idle}
use Rattle.worked_examples.proofs.tasks.sixty_four_tasks_in_a_row.Goals as goal

pub returns : goal.returns
unfolding is_idle
returns c = refl
