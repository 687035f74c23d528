use Rattle.std.proofs.Common.{refl}
use Rattle.vsm_model.specs.Releasing.{is_idle}
use Rattle.worked_examples.proofs.steps.a_refused_statement_is_not_kept.Goals as goal

pub returns : goal.returns
unfolding is_idle
returns c = refl
