-- The table as JSON, an object a line.
use Rattle.std.specs.Prelude.{ℕ, ◌+◌, ◌*◌, nat_lt, Option, Some, None, List, [], ◌++◌, codes}
use Rattle.explain_text.specs.Json.{json_name, number_field, object_end, object_start, string_field}
use Rattle.explain_report.specs.Texts.{tasks_text}
use Rattle.explain_report.specs.Values.{could_get, fragmented, shown_address, taken_of}
use Rattle.explain_report.specs.declared.rows.Share.{Share}
use Rattle.explain_report.specs.declared.rows.SubpoolRow.{SubpoolRow}
use Rattle.explain_report.specs.declared.tallies.Tally.{Tally}
use Rattle.explain_report.specs.declared.times.Moment.{Moment}

-- the address of what is longest, if there is one
abbrev pub at_field : Option ℕ → List ℕ
at_field None = []
at_field (Some address) = number_field (codes "at") address

-- ---- the table

-- what a subpool has on one side of the line
abbrev pub amounts_fields : Share → List ℕ
amounts_fields share =
    number_field (codes "pages") share.pages
    ++ number_field (codes "taken") (taken_of share)
    ++ number_field (codes "free") (8 * share.free.total)
    ++ number_field (codes "areas") share.free.count
    ++ number_field (codes "largest") (8 * share.largest)

abbrev pub share_fields : Share → List ℕ
share_fields share =
    amounts_fields share
    ++ at_field (shown_address (nat_lt 0 share.largest) (8 * share.free.at))
    ++ number_field (codes "fragmented") (fragmented share.largest share.free.total)
    ++ number_field (codes "could_get") (could_get share)

-- the tasks other than its owner that see it
abbrev pub sharers_field : List ℕ → List ℕ
sharers_field tasks = json_name (codes "sharers") ++ codes "[" ++ tasks_text [] tasks ++ codes "]"

abbrev pub side_json : SubpoolRow → List ℕ → Share → List ℕ → List ℕ
side_json row side share sharers =
    object_start (codes "subpool")
    ++ number_field (codes "subpool") row.subpool.number
    ++ number_field (codes "owner") row.subpool.owner
    ++ string_field (codes "side") side
    ++ share_fields share
    ++ sharers_field sharers
    ++ object_end

-- the sums of all subpools
abbrev pub total_json : Moment → List ℕ
total_json m =
    object_start (codes "total")
    ++ number_field (codes "pages") (m.totals.low_pages + m.totals.high_pages)
    ++ number_field (codes "taken") m.totals.taken
    ++ number_field (codes "free") m.totals.free
    ++ number_field (codes "areas") m.free.count
    ++ object_end

-- the unassigned pages of one side, in how many runs, the longest, and its bytes
abbrev pub runs_fields : Tally → List ℕ
runs_fields runs =
    number_field (codes "pages") runs.total
    ++ number_field (codes "runs") runs.count
    ++ number_field (codes "longest") runs.longest
    ++ number_field (codes "bytes") (4096 * runs.longest)
    ++ at_field (shown_address (nat_lt 0 runs.longest) (4096 * runs.at))

abbrev pub unassigned_json : List ℕ → Tally → List ℕ
unassigned_json side runs =
    object_start (codes "unassigned") ++ string_field (codes "side") side ++ runs_fields runs ++ object_end
