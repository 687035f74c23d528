use Rattle.subpool_set.proofs.LawLemmas.{queues_stay}
use Rattle.subpool_set.proofs.laws.queues_stay.Goals as goal

pub returns : goal.returns
returns c = queues_stay
