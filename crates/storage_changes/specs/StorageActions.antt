-- The records of a change that takes an area, gives one back, writes bytes or sets registers.
use Rattle.std.specs.Prelude.{ℕ, zero, suc, ◌+◌, ◌-◌, ◌*◌, ◌/◌, Bool, true, false, ◌==◌, if◌then◌else◌, Option}
use Rattle.std.specs.Prelude.{List, [], ◌∷◌, ◌++◌, map, length, slice_get}
use Rattle.std.specs.List.{range_with_len}
use Rattle.run_set.specs.Runs.{Run}
use Rattle.vsm_model.specs.declared.Subpool.{Subpool}
use Rattle.vsm_model.specs.Regions.{among, pages_for}
use Rattle.vsm_model.specs.Search.{all_pass}
use Rattle.subpool_storage.specs.Subpools.{Subpools}
use Rattle.storage_changes.specs.declared.record.Record.{Record}
use Rattle.storage_changes.specs.declared.record.Record.TheVariants.{Area, Extent, Pages, Own, Register, Bytes, Obtain}
use Rattle.storage_changes.specs.State.{StorageState}
use Rattle.storage_changes.specs.Turned.{read}

abbrev pub run_of : ℕ → ℕ → Run
run_of start len = record { start = start; len = len }

-- the doublewords of an area become free in the subpool, or taken; an area without a doubleword needs no record
abbrev pub area_records : Subpool → ℕ → ℕ → Bool → List Record
area_records p start zero free = []
area_records p start (suc n) free = Area (record { subpool = p; area = run_of start (suc n); free = free }) ∷ []

-- a subpool that is made first, if it is new
abbrev pub own_records : Subpool → Bool → List Record
own_records p true = Own (record { subpool = p; present = true }) ∷ []
own_records p false = []

-- the pages are assigned, and become the subpool's
abbrev pub assigned_records : Subpool → ℕ → ℕ → List Record
assigned_records p page count =
    Pages (record { run = run_of page count; assigned = true })
    ∷ Extent (record { subpool = p; run = run_of page count; present = true })
    ∷ []

-- the pages leave the subpool, and become unassigned
abbrev pub returned_records : Subpool → ℕ → ℕ → List Record
returned_records p page zero = []
returned_records p page (suc n) =
    Extent (record { subpool = p; run = run_of page (suc n); present = false })
    ∷ Pages (record { run = run_of page (suc n); assigned = false })
    ∷ []

-- The count doublewords from d on, which are free in the subpool, are taken.
abbrev pub take_records : Subpool → ℕ → ℕ → List Record
take_records p d count = area_records p d count false

-- They are taken at the first byte of new pages, whose doublewords after them become free.
abbrev pub take_fresh_records : Subpool → ℕ → ℕ → List Record
take_fresh_records p page count =
    assigned_records p page (pages_for count)
    ++ area_records p (512 * page + count) (512 * pages_for count - count) true

-- They are given back, and this many pages from this one on, which have no other taken doubleword, leave the subpool:
-- what of the area lies outside these pages becomes free, and what of the pages lies outside the area, which is free,
-- becomes taken.
abbrev pub give_back_records : Subpool → ℕ → ℕ → ℕ → ℕ → List Record
give_back_records p d count page zero = area_records p d count true
give_back_records p d count page (suc n) =
    area_records p d (512 * page - d) true
    ++ area_records p (512 * page) (d - 512 * page) false
    ++ area_records p (512 * (page + suc n)) (d + count - 512 * (page + suc n)) true
    ++ area_records p (d + count) (512 * (page + suc n) - (d + count)) false
    ++ returned_records p page (suc n)

-- with this many blank elements, if this many pages leave.
abbrev pub give_back_blanks : ℕ → ℕ
give_back_blanks zero = 2
give_back_blanks (suc n) = 5

-- the first page that an area from d on empties: it keeps the one that it begins in if some doubleword before it is
-- taken there,
abbrev pub first_emptied : Subpools → Subpool → ℕ → ℕ
first_emptied m p d = if all_pass (m.free p) (512 * (d / 512)) (d - 512 * (d / 512)) then d / 512 else d / 512 + 1

-- the page past the last one, if the area ends at this doubleword,
abbrev pub past_emptied : Subpools → Subpool → ℕ → ℕ
past_emptied m p end =
    if all_pass (m.free p) end (512 * pages_for end - end) then pages_for end else pages_for end - 1

-- and the run of them
abbrev pub emptied_pages : Subpools → Subpool → ℕ → ℕ → Run
emptied_pages m p d count = run_of (first_emptied m p d) (past_emptied m p (d + count) - first_emptied m p d)

-- the bytes once these are stored from the address on
abbrev pub bytes_with : (ℕ → Option ℕ) → ℕ → List ℕ → ℕ → Option ℕ
bytes_with old address bytes a = if among address (length bytes) a then slice_get bytes (a - address) else old a

-- the number of blocks of sixteen bytes that this many bytes from the address on touch
abbrev pub blocks_for : ℕ → ℕ → ℕ
blocks_for address zero = 0
blocks_for address (suc n) = (address + n) / 16 + 1 - address / 16

-- Each of them has its other bytes as they were.
abbrev pub write_records : StorageState → ℕ → List ℕ → List Record
write_records m address bytes =
    map (λ block. Bytes (record { block = block; bytes = read (bytes_with m.bytes address bytes) (16 * block) 16 }))
    (range_with_len (address / 16) (blocks_for address (length bytes)))

-- a register of a task gets a word
abbrev pub register_record : ℕ → ℕ × ℕ → Record
register_record task row = Register (record { task = task; register = row.0; word = row.1 })

-- Registers of a task get words. The first of them, which has the return code, mostly has its word already, and then
-- needs no record.
abbrev pub set_records : ℕ → (ℕ → ℕ) → List (ℕ × ℕ) → List Record
set_records task words [] = []
set_records task words (row ∷ rows) =
    (if words row.0 == row.1 then [] else register_record task row ∷ []) ++ map (register_record task) rows

-- those of the current task
abbrev pub register_records : StorageState → List (ℕ × ℕ) → List Record
register_records m rows = set_records m.tasks.current (m.tasks.words m.tasks.current) rows

-- The count doublewords from d on, which are free in the subpool, are taken, and a register of the task gets a word.
abbrev pub obtain_record : ℕ → Subpool → ℕ → ℕ → ℕ × ℕ → Record
obtain_record task p d count row =
    Obtain (record {
      area = record { subpool = p; area = run_of d count; free = false };
      register = record { task = task; register = row.0; word = row.1 };
    })

-- They are taken together with the second of the registers that are set.
abbrev pub obtained_records : StorageState → Subpool → ℕ → ℕ → ℕ × ℕ → ℕ × ℕ → List (ℕ × ℕ) → List Record
obtained_records m p d count code address rows =
    register_records m (code ∷ [])
    ++ obtain_record m.tasks.current p d count address
    ∷ map (register_record m.tasks.current) rows
