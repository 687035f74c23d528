use Rattle.row_table.proofs.RowLemmas.{none_some}
use Rattle.subpool_set.specs.SubpoolSet.{sight, pool, owned, number_of, owner_of, IsSubpoolSet}
use Rattle.subpool_set.specs.Kept.{pool_in}
use Rattle.std.proofs.Common.{ap}
use Rattle.subpool_set.proofs.set.SubpoolSet.new.Goals as goal

pub returns-clause-queues : goal.returns-clause-queues
unfolding sight pool owned number_of owner_of IsSubpoolSet
returns-clause-queues c s =
    record {
      stand = λ n o p e. absurd (none_some (pool_in o _) p (ap (pool_in o) (c.new.ensures.empty s o n)) e);
      apart = λ n o m r p x e k d. absurd (none_some (pool_in o _) p (ap (pool_in o) (c.new.ensures.empty s o n)) e);
      beside = λ n o p e. absurd (none_some (pool_in o _) p (ap (pool_in o) (c.new.ensures.empty s o n)) e);
    }
