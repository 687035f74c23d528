use Rattle.vsm_elements.proofs.MoveLemmas.{moves-of}
use Rattle.vsm_elements.proofs.laws.calls_move.Goals as goal

pub returns : goal.returns
returns c = moves-of
