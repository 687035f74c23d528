use Rattle.std.proofs.Common.{◌≡◌, ◌∙◌, ap, sym, subst, ℕ, Option, drop}
use Rattle.std.specs.Prelude.{IfSome, map}
use Rattle.row_table.specs.RowTable.{rows, place_index}
use Rattle.list_table.specs.Stocks.{rows_of}
use Rattle.list_table.specs.ListTable.{entry_of}
use Rattle.cell_pool.specs.Items.{extent_of}
use Rattle.cell_pool.proofs.ShapeLemmas.{own_extents}
use Rattle.cell_pool.specs.Pools.{Pool}
use Rattle.cell_pool.specs.Walks.{IsExtentPlace, extents_left}
use Rattle.cell_pool.proofs.pools.CellPools.first_extent.Goals as goal

pub returns-clause-place : goal.returns-clause-place
unfolding IsExtentPlace
returns-clause-place c = (c.row-row.ensures.open.stock.extents, c.first_place.ensures.place c.args.elements.now c.row-row.result.stock.extents)

pub returns-clause-all : goal.returns-clause-all
unfolding extents_left
returns-clause-all c =
    let s = c.args.elements.now in
    let P : Option Pool → Type 0 = λ z. IfSome z (λ (p : Pool). map extent_of (drop (place_index c.first_place.result) (rows_of (rows s c.row-row.result.stock.extents))) ≡ p.extents) in
    subst P (sym c.row-row.ensures.pool)
    (ap (λ (k : ℕ). map extent_of (drop k (rows_of (rows s c.row-row.result.stock.extents)))) c.first_place.ensures.index ∙ sym (own_extents (entry_of s c.row-row.result)))
