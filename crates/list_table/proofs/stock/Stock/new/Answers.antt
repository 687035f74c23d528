use Rattle.std.proofs.Common.{ℕ, [], List, ap, ◌∙◌}
use Rattle.vsm_elements.specs.Chain.{follow}
use Rattle.row_table.specs.declared.row.Row.{Row}
use Rattle.row_table.specs.RowTable.{rows}
use Rattle.list_table.specs.Stocks.{items_of, rows_of}
use Rattle.list_table.proofs.StockLemmas.{no_rows}
use Rattle.list_table.proofs.stock.Stock.new.Goals as goal

pub returns-clause-empty : goal.returns-clause-empty
returns-clause-empty c s =
    ap (λ (k : ℕ). record { items = items_of (follow s c.new.result.first k); used = rows_of (rows s c.new-2.result); extents = rows_of (rows s c.new-3.result); places = rows_of (rows s c.new-4.result) }) c.new.ensures.1
    ∙ ap (λ (z : List Row). record { items = []; used = rows_of z; extents = rows_of (rows s c.new-3.result); places = rows_of (rows s c.new-4.result) }) (no_rows s c.new-2.result (c.new-2.ensures.owned s))
    ∙ ap (λ (z : List Row). record { items = []; used = []; extents = rows_of z; places = rows_of (rows s c.new-4.result) }) (no_rows s c.new-3.result (c.new-3.ensures.owned s))
    ∙ ap (λ (z : List Row). record { items = []; used = []; extents = []; places = rows_of z }) (no_rows s c.new-4.result (c.new-4.ensures.owned s))
