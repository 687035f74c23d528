use Rattle.std.proofs.Common.{◌≡◌, ℕ, List, ◌++◌, map, take}
use Rattle.std.specs.Prelude.{filter}
use Rattle.macro_statements.specs.Requests.{Act}
use Rattle.vsm_model.specs.declared.limits.Settings.{Settings}
use Rattle.explain_standing.specs.Carried.{IsCarried}
use Rattle.explain_areas.specs.Rows.{cell_row, is_chosen}
use Rattle.explain_areas.proofs.listed.add_cells.Given as goal

abbrev pub invariant-loop-cell : goal.invariant-loop-cell
invariant-loop-cell l =
    (settings : Settings) (xs : List (ℕ × Act)) → IsCarried settings xs l.carried →
    l.rows.items ≡ l.fn.rows.items ++ map (cell_row settings xs) (filter (is_chosen l.choice) (take l.cell-index l.cells))
