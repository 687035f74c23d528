use Rattle.list_table.proofs.StockLemmas.{used_change}
use Rattle.list_table.proofs.laws.used_change.Goals as goal

pub returns : goal.returns
returns c = used_change
