-- The values that go out.
-- Assembler Services Guide, "Virtual storage management", "Subpool handling".
use Rattle.std.specs.Prelude.{ℕ, ◌-◌, ◌*◌, ◌/◌, max, nat_lt, ◌==◌, Bool, ◌&&◌, if◌then◌else◌}
use Rattle.std.specs.Prelude.{Option, Some, None, List, [], ◌∷◌}
use Rattle.explain_report.specs.PoolFigures.{used_in}
use Rattle.explain_report.specs.declared.rows.Share.{Share}
use Rattle.explain_report.specs.declared.times.Moment.{Moment}

-- the address of what is longest, if there is one, and if it has at most eight hexadecimal digits
abbrev pub shown_address : Bool → ℕ → Option ℕ
shown_address some address = if some && nat_lt address 4294967296 then Some address else None

-- what the free storage lacks to be one area, in hundredths: nothing if there is none
abbrev pub fragmented : ℕ → ℕ → ℕ
fragmented largest free = if free == 0 then 0 else 100 - (100 * largest) / free

-- The bytes of a share that are taken, and the most bytes that can be had at once: in its own free storage, or in
-- unassigned pages.
abbrev pub taken_of : Share → ℕ
taken_of share = 4096 * share.pages - 8 * share.free.total

abbrev pub could_get : Share → ℕ
could_get share = max (4096 * share.unassigned) (8 * share.largest)

-- ---- a subpool on one side of the line

-- the pages of one side, the bytes that are taken and free in them, the free areas, the bytes of the largest, and the
-- most bytes that can be had at once
abbrev pub share_values : Share → List ℕ
share_values share =
    share.pages
    ∷ taken_of share
    ∷ 8 * share.free.total
    ∷ share.free.count
    ∷ 8 * share.largest
    ∷ could_get share
    ∷ []

-- ---- the whole storage

-- Each side's assigned and unassigned pages, the runs of these and the longest; taken and free bytes, and free areas;
-- the extents of cell pools and their bytes, and the cells in use and free.
abbrev pub moment_values : Moment → List ℕ
moment_values m =
    m.totals.low_pages
    ∷ m.unassigned.low.total
    ∷ m.unassigned.low.count
    ∷ m.unassigned.low.longest
    ∷ m.totals.high_pages
    ∷ m.unassigned.high.total
    ∷ m.unassigned.high.count
    ∷ m.unassigned.high.longest
    ∷ m.totals.taken
    ∷ m.totals.free
    ∷ m.free.count
    ∷ m.pools.extents
    ∷ m.pools.bytes
    ∷ used_in m.pools
    ∷ m.pools.free
    ∷ []
