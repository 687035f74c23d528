use Rattle.std.proofs.Common.{None}
use Rattle.row_table.specs.RowTable
use Rattle.row_table.specs.RowTable.{row}
use Rattle.subpool_set.specs.Kept.{pools_in}
use Rattle.subpool_set.specs.SubpoolSet.{sight, pool, owned, number_of, owner_of, IsSubpoolSet}
use Rattle.subpool_set.proofs.KeptLemmas.{pools_becomes}
use Rattle.subpool_set.proofs.IdLemmas.{gone_apart}
use Rattle.subpool_set.proofs.set.SubpoolSet.remove.Goals as goal

pub returns-clause-queues : goal.returns-clause-queues
unfolding sight pool owned number_of owner_of IsSubpoolSet
returns-clause-queues c was = gone_apart c.args.elements.now c.remove.new.elements (RowTable.owned c.args.elements.now c.args.self.now.rows) (RowTable.owned c.remove.new.elements c.remove.new.self) c.remove.ensures.owned (pools_in (row c.args.elements.now c.args.self.now.rows)) (pools_in (row c.remove.new.elements c.remove.new.self)) c.from-2.result c.from.result
    (pools_becomes (row c.args.elements.now c.args.self.now.rows) (row c.remove.new.elements c.remove.new.self) c.from.result c.from-2.result None c.remove.ensures.rows) was
