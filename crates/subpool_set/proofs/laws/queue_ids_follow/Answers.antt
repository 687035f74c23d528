use Rattle.subpool_set.proofs.FollowLemmas.{ids_follow}
use Rattle.subpool_set.proofs.laws.queue_ids_follow.Goals as goal

pub returns : goal.returns
returns c = ids_follow
