use Rattle.std.proofs.Common.{refl}
use Rattle.vsm_model.specs.Releasing.{is_idle}
use Rattle.worked_examples.proofs.steps.forward_until_a_new_statement.Goals as goal

pub returns : goal.returns
unfolding is_idle
returns c = refl
