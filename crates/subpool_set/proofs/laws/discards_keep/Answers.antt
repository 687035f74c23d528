use Rattle.subpool_set.proofs.LawLemmas.{discards_keep}
use Rattle.subpool_set.proofs.laws.discards_keep.Goals as goal

pub returns : goal.returns
returns c = discards_keep
