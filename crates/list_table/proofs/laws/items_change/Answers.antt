use Rattle.list_table.proofs.StockLemmas.{items_change}
use Rattle.list_table.proofs.laws.items_change.Goals as goal

pub returns : goal.returns
returns c = items_change
