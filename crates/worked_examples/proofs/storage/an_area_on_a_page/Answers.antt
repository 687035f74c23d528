use Rattle.std.proofs.Common.{refl}
use Rattle.vsm_model.specs.Releasing.{is_idle}
use Rattle.worked_examples.proofs.storage.an_area_on_a_page.Goals as goal

pub returns : goal.returns
unfolding is_idle
returns c = refl
