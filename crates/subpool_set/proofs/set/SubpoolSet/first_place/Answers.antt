use Rattle.subpool_set.specs.SubpoolSet.{pool, pools_left, IsSubpoolPlace, IsSubpoolSet}
use Rattle.subpool_set.proofs.WalkLemmas.{front_pools}
use Rattle.subpool_set.proofs.set.SubpoolSet.first_place.Goals as goal

pub returns-clause-place : goal.returns-clause-place
unfolding IsSubpoolPlace
returns-clause-place c s q = c.first_place.ensures.place s q.rows

pub returns-clause-all : goal.returns-clause-all
unfolding pool pools_left IsSubpoolSet
returns-clause-all c s q h = front_pools s q.rows h c.first_place.result c.first_place.ensures.index
