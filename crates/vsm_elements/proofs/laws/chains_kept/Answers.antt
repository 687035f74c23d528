use Rattle.vsm_elements.proofs.OwnerLemmas.{chains_kept}
use Rattle.vsm_elements.proofs.laws.chains_kept.Goals as goal

pub returns : goal.returns
returns c = chains_kept
