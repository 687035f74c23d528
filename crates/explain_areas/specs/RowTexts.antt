-- Rows as they're written, as text or as JSON, and their sum.
use Rattle.std.specs.Prelude.{ℕ, ◌+◌, ◌==◌, min, not, ◌||◌, if◌then◌else◌, Option, Some, None, is_some}
use Rattle.std.specs.Prelude.{List, [], ◌∷◌, ◌++◌, codes, flat_map, fold}
use Rattle.arrayvec.specs.ArrayVec.{ArrayVec}
use Rattle.explain_text.specs.Json.{json_head}
use Rattle.explain_text.specs.Rows.{Meant, address, end_of, fields_of, number, number_in_object, only_in_text, row_of}
use Rattle.explain_text.specs.Rows.{start_of, text, truth}
use Rattle.explain_text.specs.declared.json.Form.{Form}
use Rattle.explain_text.specs.declared.json.Form.TheVariants as form
use Rattle.explain_who.specs.LineTexts.{line_fields, line_text}
use Rattle.explain_areas.specs.Keeps.{TakenPage, pages_in}
use Rattle.explain_areas.specs.declared.asked.Listed.{Listed}
use Rattle.explain_areas.specs.declared.asked.Listed.TheVariants as listed
use Rattle.explain_areas.specs.declared.rows.Row.{Row}
use Rattle.explain_areas.specs.declared.sums.Sum.{Sum}

-- ---- a row

-- the statement of a line
abbrev pub line_in : Form → List ℕ → ℕ → List ℕ
line_in form.Text script line = line_text script line
line_in form.Json script line = line_fields script line

-- a cell pool, if there is one
abbrev pub pool_field : List ℕ → Option (ArrayVec ℕ) → Meant
pool_field words None = only_in_text []
pool_field words (Some name) = text words (codes "pool") name.items

-- The task that asked, in text only if it isn't the owner of the subpool, or has ended.
abbrev pub asked_field : Row → Meant
asked_field r =
    if r.ended || not (r.asked_by == r.subpool.owner)
    then number (codes ", obtained by task ") (codes "asked_by") r.asked_by
    else number_in_object (codes "asked_by") r.asked_by

abbrev pub fields : Row → List Meant
fields r =
    number [] (codes "bytes") r.bytes ∷ address (codes " bytes at ") (codes "address") r.address
    ∷ pool_field (codes ", a cell of cell pool ") r.cell_of
    ∷ number (codes ", subpool ") (codes "subpool") r.subpool.number
    ∷ number (codes " of task ") (codes "owner") r.subpool.owner
    ∷ pool_field (codes ", cell pool ") r.extent_of
    ∷ asked_field r ∷ truth (codes ", which has ended") (codes "ended") r.ended ∷ []

abbrev pub kind : Row → List ℕ
kind r = if is_some r.cell_of then codes "cell" else codes "area"

abbrev pub row_in : Form → List ℕ → Row → List ℕ
row_in f script r =
    start_of f (kind r) ++ line_in f script r.line ++ fields_of f (fields r) ++ end_of f

-- ---- their sum

-- the most that a number is
abbrev pub most : ℕ
most = 18446744073709551615

abbrev pub nothing : Sum
nothing = record { areas = 0; area_bytes = 0; cells = 0; cell_bytes = 0 }

abbrev pub with_row : Sum → Row → Sum
with_row s r =
    if is_some r.cell_of
    then record s { cells = min (s.cells + 1) most; cell_bytes = min (s.cell_bytes + r.bytes) most }
    else record s { areas = min (s.areas + 1) most; area_bytes = min (s.area_bytes + r.bytes) most }

abbrev pub sum_of : List Row → Sum
sum_of = fold with_row nothing

abbrev pub word : ℕ → List ℕ → List ℕ → List ℕ
word n one more = if n == 1 then one else more

-- cells are said only if they're listed
abbrev pub cells_field : ℕ → Meant
cells_field n = if n == 0 then number_in_object (codes "cells") n else number (codes ", ") (codes "cells") n

abbrev pub cells_word : ℕ → List ℕ
cells_word n = if n == 0 then [] else word n (codes " cell in use") (codes " cells in use")

abbrev pub areas_fields : Sum → List Meant
areas_fields s =
    number [] (codes "areas") s.areas ∷ only_in_text (word s.areas (codes " area") (codes " areas"))
    ∷ number (codes ", ") (codes "bytes") s.area_bytes ∷ only_in_text (codes " bytes taken")
    ∷ cells_field s.cells ∷ only_in_text (cells_word s.cells) ∷ []

abbrev pub cells_fields : Sum → List Meant
cells_fields s =
    number [] (codes "cells") s.cells ∷ only_in_text (word s.cells (codes " cell in use") (codes " cells in use"))
    ∷ number (codes ", ") (codes "bytes") s.cell_bytes ∷ only_in_text (codes " bytes") ∷ []

abbrev pub sum_in : Form → Listed → Sum → List ℕ
sum_in f (listed.Areas subpool keeps) s = row_of f (codes "sum") (areas_fields s)
sum_in f (listed.Cells pool) s = row_of f (codes "sum") (cells_fields s)

-- ---- all

-- JSON begins with its version.
abbrev pub head_in : Form → List ℕ
head_in form.Text = []
head_in form.Json = json_head (codes "report")

abbrev pub listed_text : Form → Listed → List ℕ → List TakenPage → List Row → List ℕ
listed_text f what script pages rows =
    head_in f ++ pages_in f pages ++ flat_map (row_in f script) rows ++ sum_in f what (sum_of rows)
