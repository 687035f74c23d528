use Rattle.vsm_elements.proofs.MoveLemmas.{others-kept}
use Rattle.vsm_elements.proofs.laws.others_kept.Goals as goal

pub returns : goal.returns
returns c = others-kept
