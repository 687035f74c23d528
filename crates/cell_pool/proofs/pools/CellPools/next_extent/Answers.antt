use Rattle.std.proofs.Common.{◌∙◌, ◌+◌, ◌∷◌, ap, sym, ℕ, drop}
use Rattle.std.specs.Prelude.{map}
use Rattle.row_table.specs.RowTable.{rows, place_index}
use Rattle.list_table.specs.Stocks.{rows_of}
use Rattle.cell_pool.specs.declared.settings.Extent.{Extent}
use Rattle.cell_pool.specs.Items.{extent_of}
use Rattle.cell_pool.specs.Walks.{IsExtentPlace, extents_left}
use Rattle.cell_pool.proofs.PlaceLemmas.{rows_step, rows_end, where_none}
use Rattle.cell_pool.proofs.pools.CellPools.next_extent.Goals as goal

pub next_row-requires-clause-table : goal.next_row-requires-clause-table
unfolding IsExtentPlace
next_row-requires-clause-table c = c.requires.0

pub next_row-requires-clause-place : goal.next_row-requires-clause-place
unfolding IsExtentPlace
next_row-requires-clause-place c = c.requires.1

pub returns-in_err-row-clause-none : goal.returns-in_err-row-clause-none
unfolding extents_left
returns-in_err-row-clause-none c = where_none c.from_residual.result _ (rows_end (rows c.args.elements.now c.args.place.extents) (place_index c.args.place.place) (sym c.in_err-row.ensures.row))

pub returns-clause-next : goal.returns-clause-next
unfolding extents_left
returns-clause-next c =
    let all = rows c.args.elements.now c.args.place.extents in
    rows_step all (place_index c.args.place.place) c.in_ok-row.row (sym c.in_ok-row.ensures.row)
    ∙ ap (λ (z : Extent). z ∷ map extent_of (drop (place_index c.args.place.place + 1) (rows_of all))) (sym c.extent_of.ensures)
    ∙ ap (λ (k : ℕ). c.extent_of.result ∷ map extent_of (drop k (rows_of all))) (sym c.in_ok-row.ensures.next.1)
