-- The table as text: columns and lines.
-- Assembler Services Guide, "Virtual storage management", "Subpool handling".
use Rattle.std.specs.Prelude.{ℕ, ◌+◌, ◌*◌, nat_lt, ◌==◌, Bool, if◌then◌else◌}
use Rattle.std.specs.Prelude.{Option, Some, None, List, [], ◌∷◌, ◌++◌, codes, flat_map}
use Rattle.std.specs.Fmt.{decimal}
use Rattle.explain_text.specs.Columns.{column}
use Rattle.storage_map.specs.Lines.{sharer_text}
use Rattle.vsm_model.specs.Texts.{hexadecimal}
use Rattle.explain_report.specs.Values.{could_get, fragmented, shown_address, taken_of}
use Rattle.explain_report.specs.declared.rows.Share.{Share}
use Rattle.explain_report.specs.declared.rows.SubpoolRow.{SubpoolRow}
use Rattle.explain_report.specs.declared.tallies.Tally.{Tally}
use Rattle.explain_report.specs.declared.times.Moment.{Moment}

-- numbers at the right of columns of these widths
abbrev pub columns : List (ℕ × ℕ) → List ℕ
columns cells = flat_map (λ cell. column cell.0 cell.1) cells

-- an address in eight digits, or a dash if there is none
abbrev pub address_text : Option ℕ → List ℕ
address_text None = codes "-       "
address_text (Some address) = hexadecimal 8 address

abbrev pub where_text : Bool → ℕ → List ℕ
where_text some address = codes " " ++ address_text (shown_address some address)

-- PAGES, TAKEN, FREE, AREAS, LARGEST AT, FRAGMENTED and COULD GET of one side of the line
abbrev pub amounts_text : Share → List ℕ
amounts_text share =
    columns
    ((7, share.pages)
    ∷ (11, taken_of share)
    ∷ (11, 8 * share.free.total)
    ∷ (7, share.free.count)
    ∷ (11, 8 * share.largest)
    ∷ [])

abbrev pub share_text : Share → List ℕ
share_text share =
    amounts_text share
    ++ where_text (nat_lt 0 share.largest) (8 * share.free.at)
    ++ column 9 (fragmented share.largest share.free.total)
    ++ codes " %"
    ++ column 11 (could_get share)

-- tasks with commas between, or these words if there is none
abbrev pub tasks_text : List ℕ → List ℕ → List ℕ
tasks_text none [] = none
tasks_text none (task ∷ tasks) = decimal task ++ flat_map sharer_text tasks

-- SUBPOOL, OWNER, SIDE, what it has there, and SHARERS
abbrev pub side_text : SubpoolRow → List ℕ → Share → List ℕ → List ℕ
side_text row side share sharers =
    columns ((7, row.subpool.number) ∷ (6, row.subpool.owner) ∷ [])
    ++ codes " "
    ++ side
    ++ share_text share
    ++ codes " "
    ++ tasks_text (codes "NONE") sharers
    ++ 10 ∷ []

-- TOTAL: PAGES, TAKEN, FREE and AREAS of all subpools
abbrev pub total_text : Moment → List ℕ
total_text m =
    codes "  TOTAL            "
    ++ columns
    ((7, m.totals.low_pages + m.totals.high_pages)
    ∷ (11, m.totals.taken)
    ∷ (11, m.totals.free)
    ∷ (7, m.free.count)
    ∷ [])
    ++ 10 ∷ []

-- what a number counts
abbrev pub plural : ℕ → List ℕ
plural n = if n == 1 then [] else codes "S"

abbrev pub counted : ℕ → List ℕ → List ℕ
counted n word = codes " " ++ word ++ plural n

-- UNASSIGNED: the pages of one side, in how many runs, and the longest
abbrev pub runs_text : Tally → List ℕ
runs_text runs =
    column 7 runs.total
    ++ counted runs.total (codes "PAGE")
    ++ codes " IN "
    ++ decimal runs.count
    ++ counted runs.count (codes "RUN")

abbrev pub longest_text : Tally → List ℕ
longest_text runs =
    codes ", LONGEST "
    ++ decimal runs.longest
    ++ counted runs.longest (codes "PAGE")
    ++ codes " ("
    ++ decimal (4096 * runs.longest)
    ++ codes " BYTES) AT"
    ++ where_text (nat_lt 0 runs.longest) (4096 * runs.at)

abbrev pub unassigned_text : List ℕ → Tally → List ℕ
unassigned_text side runs =
    codes "UNASSIGNED " ++ side ++ codes "   " ++ runs_text runs ++ longest_text runs ++ 10 ∷ []

abbrev pub columns_text : List ℕ
columns_text =
    codes "SUBPOOL OWNER SIDE   PAGES      TAKEN       FREE  AREAS    LARGEST AT       FRAGMENTED"
    ++ codes "  COULD GET SHARERS\n"
