-- What the table writes, as text or as JSON.
use Rattle.std.specs.Prelude.{ℕ, Bool, ◌||◌, ◌==◌, nat_lt, if◌then◌else◌, List, [], ◌++◌, codes}
use Rattle.explain_text.specs.declared.json.Form.{Form}
use Rattle.explain_text.specs.declared.json.Form.TheVariants as form
use Rattle.explain_report.specs.PoolRows.{pools_in}
use Rattle.vsm_model.specs.CellPools.{CellPools}
use Rattle.explain_report.specs.Objects.{side_json, total_json, unassigned_json}
use Rattle.explain_report.specs.Texts.{columns_text, side_text, total_text, unassigned_text}
use Rattle.explain_report.specs.declared.rows.Share.{Share}
use Rattle.explain_report.specs.declared.rows.SubpoolRow.{SubpoolRow}
use Rattle.explain_report.specs.declared.tallies.Tally.{Tally}
use Rattle.explain_report.specs.declared.times.Moment.{Moment}

-- the names of columns
abbrev pub columns_in : Form → List ℕ
columns_in form.Text = columns_text
columns_in form.Json = []

abbrev pub side_in : Form → SubpoolRow → List ℕ → Share → List ℕ → List ℕ
side_in form.Text row side share sharers = side_text row side share sharers
side_in form.Json row side share sharers = side_json row side share sharers

-- the lines of a subpool: one for each side on which it has pages, and one at least
abbrev pub shows_low : SubpoolRow → Bool
shows_low row = nat_lt 0 row.low.pages || (row.high.pages == 0)

abbrev pub low_in : Form → SubpoolRow → List ℕ → List ℕ
low_in form row sharers = if shows_low row then side_in form row (codes "BELOW") row.low sharers else []

abbrev pub shows_high : SubpoolRow → Bool
shows_high row = nat_lt 0 row.high.pages

abbrev pub high_in : Form → SubpoolRow → List ℕ → List ℕ
high_in form row sharers = if shows_high row then side_in form row (codes "ABOVE") row.high sharers else []

abbrev pub row_in : Form → SubpoolRow → List ℕ → List ℕ
row_in form row sharers = low_in form row sharers ++ high_in form row sharers

abbrev pub total_in : Form → Moment → List ℕ
total_in form.Text m = total_text m
total_in form.Json m = total_json m

abbrev pub unassigned_in : Form → List ℕ → Tally → List ℕ
unassigned_in form.Text side runs = unassigned_text side runs
unassigned_in form.Json side runs = unassigned_json side runs

-- the table with these lines of subpools, and the lines of these cell pools
abbrev pub table_in : Form → List ℕ → Moment → CellPools → List ℕ
table_in form rows m pools =
    columns_in form
    ++ rows
    ++ total_in form m
    ++ unassigned_in form (codes "BELOW") m.unassigned.low
    ++ unassigned_in form (codes "ABOVE") m.unassigned.high
    ++ pools_in form pools
