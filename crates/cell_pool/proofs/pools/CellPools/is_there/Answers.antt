use Rattle.std.proofs.Common.{◌∙◌, ap}
use Rattle.std.specs.Prelude.{nat_lt}
use Rattle.list_table.specs.ListTable.{entries}
use Rattle.cell_pool.specs.CellPools.{by_id}
use Rattle.cell_pool.proofs.RowLemmas.{stands}
use Rattle.cell_pool.proofs.PoolLemmas.{there_or_not}
use Rattle.cell_pool.proofs.pools.CellPools.is_there.Goals as goal

pub count-requires : goal.count-requires
count-requires c = stands c.args.elements.now c.args.self.now c.requires

pub returns : goal.returns
unfolding by_id
returns c = ap (nat_lt c.seek.result.index) c.count.ensures.count ∙ there_or_not c.args.id (entries c.args.elements.now c.args.self.now.table) c.seek.result.index c.seek.ensures.earlier c.seek.ensures.here
