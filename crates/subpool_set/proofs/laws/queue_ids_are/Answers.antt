use Rattle.subpool_set.proofs.LawLemmas.{queue_ids_are}
use Rattle.subpool_set.proofs.laws.queue_ids_are.Goals as goal

pub returns : goal.returns
returns c = queue_ids_are
