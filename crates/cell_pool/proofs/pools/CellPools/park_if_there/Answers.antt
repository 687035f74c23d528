use Rattle.std.proofs.Common.{◌∙◌, sym}
use Rattle.cell_pool.proofs.ExchangeLemmas.{none_out}
use Rattle.cell_pool.proofs.pools.CellPools.park_if_there.Goals as goal

pub returns-else-is_there-clause-takes : goal.returns-else-is_there-clause-takes
returns-else-is_there-clause-takes c = none_out c.args.elements.now c.args.self.now c.requires c.args.id (sym c.is_there.ensures ∙ c.if-is_there.false) c.empty.result (c.empty.ensures.parked c.args.elements.now) (c.empty.ensures.empty c.args.elements.now) (c.empty.ensures.ids c.args.elements.now) (c.empty.ensures.owned c.args.elements.now)
