use Rattle.subpool_set.proofs.LawLemmas.{queues_kept}
use Rattle.subpool_set.proofs.laws.queues_kept.Goals as goal

pub returns : goal.returns
returns c = queues_kept
