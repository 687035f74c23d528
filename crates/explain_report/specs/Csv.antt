-- The rows over time: CSV.
use Rattle.std.specs.Prelude.{ℕ, Bool, if◌then◌else◌, Option, Some, None, List, [], ◌∷◌, ◌++◌, codes, flat_map}
use Rattle.std.specs.Fmt.{decimal}
use Rattle.script_steps.specs.declared.responses.Response.{Response}
use Rattle.explain_report.specs.Values.{moment_values, share_values}
use Rattle.explain_report.specs.declared.times.Figures.{Figures}
use Rattle.explain_report.specs.declared.times.Figures.TheVariants as figures

-- the names of the values of a subpool, and of the whole storage
abbrev pub subpool_heading : List ℕ
subpool_heading =
    codes "line,low_pages,low_taken,low_free,low_areas,low_largest,low_could_get"
    ++ codes ",high_pages,high_taken,high_free,high_areas,high_largest,high_could_get\n"

abbrev pub whole_heading : List ℕ
whole_heading =
    codes "line,low_assigned,low_unassigned,low_runs,low_longest,high_assigned,high_unassigned,high_runs"
    ++ codes ",high_longest,taken,free,areas,cell_extents,cell_bytes,cells_used,cells_free\n"

-- the first row
abbrev pub heading_text : Bool → List ℕ
heading_text is_subpool = if is_subpool then subpool_heading else whole_heading

abbrev pub value_text : ℕ → List ℕ
value_text n = codes "," ++ decimal n

-- The values of the whole storage, or those of a subpool on both sides of the line.
abbrev pub values_text : Figures → List ℕ
values_text (figures.Whole m) = flat_map value_text (moment_values m)
values_text (figures.Subpool seen row) =
    flat_map value_text (share_values row.low) ++ flat_map value_text (share_values row.high)

-- the statement that begins on a line, with the figures after it
abbrev pub row_text : ℕ → Figures → List ℕ
row_text line f = decimal line ++ values_text f ++ codes "\n"

-- the row of an answer, if there is one
abbrev pub told_row : Option (ℕ × Response) → Figures → List ℕ
told_row None f = []
told_row (Some told) f = row_text told.0 f
