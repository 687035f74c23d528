-- The table of a state: a row for each subpool, the sums of the whole storage, and a line for each cell pool.
use Rattle.std.specs.Prelude.{◌≡◌, ℕ, List, [], ◌∷◌, ◌++◌}
use Rattle.explain_text.specs.declared.json.Form.{Form}
use Rattle.vsm_model.specs.declared.Subpool.{Subpool}
use Rattle.vsm_model.specs.declared.limits.Settings.{Settings}
use Rattle.vsm_model.specs.Map.{sharers}
use Rattle.vsm_model.specs.State.{State}
use Rattle.explain_report.specs.Figures.{IsMomentOf, IsRowOf, all_subpools}
use Rattle.explain_report.specs.Forms.{row_in, table_in}
use Rattle.explain_report.specs.declared.rows.SubpoolRow.{SubpoolRow}
use Rattle.explain_report.specs.declared.times.Moment.{Moment}

-- The text has the lines of these subpools, in this form: what each has, and which tasks share it.
abbrev pub AreRowsOf : Settings → Form → State → List Subpool → List ℕ → Type 0
AreRowsOf settings form s [] text = text ≡ []
AreRowsOf settings form s (p ∷ ps) text =
    (row : SubpoolRow) × (more : List ℕ) × IsRowOf settings s p row
    × (text ≡ row_in form row (sharers s p.number p.owner) ++ more) × AreRowsOf settings form s ps more

-- The text is the table of a state: all its subpools by number and owner, their totals, what is unassigned, and its
-- cell pools by name.
abbrev pub IsTable : Settings → Form → State → List ℕ → Type 0
IsTable settings form s text =
    (rows : List ℕ) × (m : Moment) × AreRowsOf settings form s (all_subpools s.subpools) rows
    × IsMomentOf settings s m × (text ≡ table_in form rows m s.cell_pools)
