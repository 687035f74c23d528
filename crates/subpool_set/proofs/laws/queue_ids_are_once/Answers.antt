use Rattle.subpool_set.proofs.CountLemmas.{ids_once}
use Rattle.subpool_set.proofs.laws.queue_ids_are_once.Goals as goal

pub returns : goal.returns
returns c = ids_once
