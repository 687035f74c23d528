use Rattle.vsm_elements.proofs.MoveLemmas.{moves-follow}
use Rattle.vsm_elements.proofs.laws.moves_follow.Goals as goal

pub returns : goal.returns
returns c = moves-follow
