use Rattle.std.proofs.Common.{rules}
use Rattle.row_table.specs.RowTable.{IsTable}
use Rattle.list_table.proofs.StockLemmas.{places_stand, stock_back}
use Rattle.list_table.proofs.stock.Stock.discard.Goals as goal

pub discard-requires : goal.discard-requires
discard-requires c =
    let stand : IsTable c.discard_front.new.elements c.args.self.places = places_stand c.args.elements.now c.discard_front.new.elements c.args.self c.requires c.discard_front.ensures in
    search rules

pub returns : goal.returns
returns c = stock_back c.args.elements.now c.discard_front.new.elements c.args.self c.requires c.discard_front.ensures c.discard.new.elements c.discard.ensures.owned
