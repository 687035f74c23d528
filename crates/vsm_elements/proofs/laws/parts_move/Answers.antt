use Rattle.vsm_elements.proofs.MoveLemmas.{moves-by}
use Rattle.vsm_elements.proofs.laws.parts_move.Goals as goal

pub returns : goal.returns
returns c = moves-by
