use Rattle.vsm_elements.proofs.MoveLemmas.{owners-kept}
use Rattle.vsm_elements.proofs.laws.owners_kept.Goals as goal

pub returns : goal.returns
returns c = owners-kept
