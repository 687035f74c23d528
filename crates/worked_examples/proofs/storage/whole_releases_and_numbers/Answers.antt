use Rattle.std.proofs.Common.{refl}
use Rattle.vsm_model.specs.Releasing.{is_idle}
use Rattle.worked_examples.proofs.storage.whole_releases_and_numbers.Goals as goal

pub returns : goal.returns
unfolding is_idle
returns c = refl
