use Rattle.subpool_set.proofs.LawLemmas.{sights_are_in_range}
use Rattle.subpool_set.proofs.laws.sights_are_in_range.Goals as goal

pub returns : goal.returns
returns c = sights_are_in_range
