use Rattle.std.proofs.Common.{◌≡◌, ℕ, List, ◌++◌, flat_map, take}
use Rattle.macro_statements.specs.Requests.{Act}
use Rattle.vsm_model.specs.declared.limits.Settings.{Settings}
use Rattle.explain_standing.specs.Carried.{IsCarried}
use Rattle.explain_areas.specs.Cells.{used_cells}
use Rattle.explain_areas.specs.Rows.{area_rows}
use Rattle.explain_areas.proofs.listed.add_areas.Given as goal

abbrev pub invariant-loop-area : goal.invariant-loop-area
invariant-loop-area l =
    (settings : Settings) (xs : List (ℕ × Act)) → IsCarried settings xs l.carried → l.cells ≡ used_cells settings xs →
    l.rows.items ≡ l.fn.rows.items ++ flat_map (area_rows settings xs l.since) (take l.area-index l.areas)
