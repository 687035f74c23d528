use Rattle.std.proofs.Common.{[], refl}
use Rattle.std.proofs.lemmas.Option.{get_or_from_slice_get}
use Rattle.vsm_elements.specs.Chain.{links}
use Rattle.list_table.specs.Stocks.{items_of}
use Rattle.cell_pool.proofs.lists.label.Goals as goal

pub returns : goal.returns
returns c =
    let items = items_of (links c.args.elements.now c.args.list) in
    rw (get_or_from_slice_get items 0 c.item.result [] c.item.ensures)
    (rw (get_or_from_slice_get items 1 c.item-2.result [] c.item-2.ensures)
    (rw (get_or_from_slice_get items 2 c.item-3.result [] c.item-3.ensures) refl))
