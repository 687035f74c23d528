use Rattle.subpool_set.proofs.LawLemmas.{queue_calls_keep}
use Rattle.subpool_set.proofs.laws.queue_calls_keep.Goals as goal

pub returns : goal.returns
returns c = queue_calls_keep
