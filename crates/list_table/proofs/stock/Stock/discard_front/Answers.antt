use Rattle.std.proofs.Common.{[], rules}
use Rattle.vsm_elements.specs.Ownership.{Leaves}
use Rattle.row_table.specs.RowTable.{IsTable}
use Rattle.list_table.proofs.StockLemmas.{pair, used_stands, pair_back, extents_stand, front_back}
use Rattle.list_table.proofs.stock.Stock.discard_front.Goals as goal

pub discard-requires-2 : goal.discard-requires-2
discard-requires-2 c = used_stands c.args.elements.now c.discard.new.elements c.args.self c.requires c.discard.ensures.owned

pub discard-requires-3 : goal.discard-requires-3
discard-requires-3 c =
    let given : Leaves c.args.elements.now c.discard-2.new.elements (pair c.args.elements.now c.args.self) [] = pair_back c.args.elements.now c.discard.new.elements c.args.self c.requires c.discard.ensures.owned c.discard-2.new.elements c.discard-2.ensures.owned in
    let stand : IsTable c.discard-2.new.elements c.args.self.extents = extents_stand c.args.elements.now c.discard-2.new.elements c.args.self c.requires given in
    search rules

pub returns : goal.returns
returns c =
    let given : Leaves c.args.elements.now c.discard-2.new.elements (pair c.args.elements.now c.args.self) [] = pair_back c.args.elements.now c.discard.new.elements c.args.self c.requires c.discard.ensures.owned c.discard-2.new.elements c.discard-2.ensures.owned in
    front_back c.args.elements.now c.discard-2.new.elements c.args.self c.requires given c.discard-3.new.elements c.discard-3.ensures.owned
