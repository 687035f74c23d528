use Rattle.std.proofs.Common.{refl}
use Rattle.vsm_model.specs.Releasing.{is_idle}
use Rattle.worked_examples.proofs.cells.cells_of_a_cell_pool.Goals as goal

pub returns : goal.returns
unfolding is_idle
returns c = refl
