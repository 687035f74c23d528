use Rattle.std.proofs.Common.{◌≡◌, ◌∙◌, ap, sym, subst, arith, Option, length}
use Rattle.std.specs.Prelude.{IfSome, map}
use Rattle.vsm_elements.specs.Chain.{links}
use Rattle.list_table.specs.Entries.{Entry}
use Rattle.list_table.specs.ListTable.{entry_of}
use Rattle.cell_pool.specs.Items.{cell_of}
use Rattle.list_table.proofs.ItemLemmas.{length-items}
use Rattle.cell_pool.specs.Pools.{Pool}
use Rattle.cell_pool.specs.Walks.{cells_left}
use Rattle.cell_pool.proofs.PlaceLemmas.{items_cells}
use Rattle.cell_pool.proofs.pools.CellPools.first_cell.Goals as goal

pub returns-clause-all : goal.returns-clause-all
unfolding cells_left
returns-clause-all c =
    let e : Entry = entry_of c.args.elements.now c.row-row.result in
    let P : Option Pool → Type 0 = λ z. IfSome z (λ (p : Pool). cells_left c.args.elements.now (record { items = c.new.result }) ≡ p.cells) in
    let long : length e.items ≡ c.row-row.result.stock.items.count = omega (arith, length-items (links c.args.elements.now c.row-row.result.stock.items), c.row-row.ensures.open.stock.items.count) in
    subst P (sym c.row-row.ensures.pool) (ap (map cell_of) c.new.ensures.items ∙ items_cells e c.row-row.result.stock.items.count long)
