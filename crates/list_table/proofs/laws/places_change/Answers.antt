use Rattle.list_table.proofs.StockLemmas.{places_change}
use Rattle.list_table.proofs.laws.places_change.Goals as goal

pub returns : goal.returns
returns c = places_change
