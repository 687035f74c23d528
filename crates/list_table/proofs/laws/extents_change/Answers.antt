use Rattle.list_table.proofs.StockLemmas.{extents_change}
use Rattle.list_table.proofs.laws.extents_change.Goals as goal

pub returns : goal.returns
returns c = extents_change
