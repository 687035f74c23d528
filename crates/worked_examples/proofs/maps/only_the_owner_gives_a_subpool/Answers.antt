use Rattle.std.proofs.Common.{refl}
use Rattle.vsm_model.specs.Releasing.{is_idle}
use Rattle.worked_examples.proofs.maps.only_the_owner_gives_a_subpool.Goals as goal

pub returns : goal.returns
unfolding is_idle
returns c = refl
