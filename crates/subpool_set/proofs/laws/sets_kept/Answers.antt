use Rattle.subpool_set.proofs.LawLemmas.{sets_kept}
use Rattle.subpool_set.proofs.laws.sets_kept.Goals as goal

pub returns : goal.returns
returns c = sets_kept
