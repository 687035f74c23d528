-- How a record is stored in the seven words of an element: its kind, its places and their other value.
use Rattle.std.specs.Prelude.{ℕ, ◌+◌, Bool, List, [], ◌∷◌, ◌++◌, ◌/◌, ◌%◌, ◌==◌, slice_index_or, if◌then◌else◌}
use Rattle.run_set.specs.Runs.{Run}
use Rattle.vsm_model.specs.declared.Subpool.{Subpool}
use Rattle.vsm_model.specs.Bytes.{fullword}
use Rattle.storage_changes.specs.declared.record.RegisterRecord.{RegisterRecord}
use Rattle.storage_changes.specs.declared.record.RegistersRecord.{RegistersRecord}
use Rattle.storage_changes.specs.declared.record.ObtainRecord.{ObtainRecord}
use Rattle.storage_changes.specs.declared.record.Record.{Record}
use Rattle.storage_changes.specs.declared.record.TaskRecord.{TaskRecord}
use Rattle.storage_changes.specs.declared.record.CellExtentRecord.{CellExtentRecord}
use Rattle.storage_changes.specs.declared.record.Record.TheVariants.{Area, Extent, Pages, Own, Queues, Register, Bytes}
use Rattle.storage_changes.specs.declared.record.Record.TheVariants.{Registers, Task, Turn, Sharer, Pass}
use Rattle.storage_changes.specs.declared.record.Record.TheVariants.{CellPool, CellExtent, Cell, Obtain}

-- the word at a place, or 0 past the last
abbrev pub word : List ℕ → ℕ → ℕ
word words i = slice_index_or words i 0

-- the subpool that the second and the third word name, and the run in the fourth and the fifth
abbrev pub subpool_in : List ℕ → Subpool
subpool_in words = record { number = word words 1 % 256; owner = word words 2 % 256 }

abbrev pub run_in : List ℕ → Run
run_in words = record { start = word words 3; len = word words 4 }

-- a record of a subpool and a run, with the value that their places get
abbrev pub words_of : ℕ → Subpool → Run → Bool → List ℕ
words_of kind p run value = kind ∷ p.number ∷ p.owner ∷ run.start ∷ run.len ∷ (if value then 1 else 0) ∷ 0 ∷ []

-- a record of a cell pool, whose id is the second word, with cells from an address on and the value that its places get
abbrev pub extent_words : ℕ → ℕ → Run → Bool → List ℕ
extent_words kind pool cells value =
    kind ∷ pool ∷ 0 ∷ cells.start ∷ cells.len ∷ (if value then 1 else 0) ∷ 0 ∷ []

abbrev pub cell_extent_in : List ℕ → CellExtentRecord
cell_extent_in words =
    record { pool = word words 1; start = word words 3; count = word words 4; present = word words 5 == 1 }

-- the register of a task that the second and the third word name, and the word in the fourth
abbrev pub register_in : List ℕ → RegisterRecord
register_in words = record { task = word words 1 % 256; register = word words 2 % 256; word = word words 3 }

-- the task and its first of four registers that the second and the third word name, and the words in the others
abbrev pub registers_in : List ℕ → RegistersRecord
registers_in words =
    record {
      task = word words 1 % 256;
      first = word words 2 % 256;
      words = word words 3 ∷ word words 4 ∷ word words 5 ∷ word words 6 ∷ [];
    }

-- The area as in a record of one; above the number and the owner of its subpool are the task and its register, whose
-- word is the last.
abbrev pub obtain_in : List ℕ → ObtainRecord
obtain_in words =
    record {
      area = record { subpool = subpool_in words; area = run_in words; free = word words 5 == 1 };
      register =
          record { task = word words 1 / 256 % 256; register = word words 2 / 256 % 256; word = word words 6 };
    }

-- the task and the parent that the second and the third word name
abbrev pub task_in : List ℕ → TaskRecord
task_in words =
    record { task = word words 1 % 256; parent = word words 2 % 256; present = word words 5 == 1 }

-- the sixteen bytes of four words
abbrev pub bytes_in : List ℕ → List ℕ
bytes_in words =
    fullword (word words 2) ++ fullword (word words 3) ++ fullword (word words 4) ++ fullword (word words 5)

-- four bytes of a list, from a place on
abbrev pub four_at : List ℕ → ℕ → List ℕ
four_at bytes place = slice_index_or bytes place 0 ∷ slice_index_or bytes (place + 1) 0
    ∷ slice_index_or bytes (place + 2) 0 ∷ slice_index_or bytes (place + 3) 0 ∷ []

-- The first word gives the kind of the record. What the others mean depends on the kind.
unfoldable pub record_of : List ℕ → Record
record_of words =
    if word words 0 == 0 then
    Area (record { subpool = subpool_in words; area = run_in words; free = word words 5 == 1 })
    else if word words 0 == 1 then
    Extent (record { subpool = subpool_in words; run = run_in words; present = word words 5 == 1 })
    else if word words 0 == 2 then Pages (record { run = run_in words; assigned = word words 5 == 1 })
    else if word words 0 == 3 then Own (record { subpool = subpool_in words; present = word words 5 == 1 })
    else if word words 0 == 4 then Queues (record { subpool = subpool_in words })
    else if word words 0 == 5 then Register (register_in words)
    else if word words 0 == 6 then Task (task_in words)
    else if word words 0 == 7 then Turn (record { task = word words 1 % 256 })
    else if word words 0 == 8 then
    Sharer (record { subpool = subpool_in words; task = word words 3 % 256; present = word words 5 == 1 })
    else if word words 0 == 9 then Pass (record { subpool = subpool_in words; to = word words 3 % 256 })
    else if word words 0 == 10 then CellPool (record { pool = word words 1; present = word words 5 == 1 })
    else if word words 0 == 11 then CellExtent (cell_extent_in words)
    else if word words 0 == 12 then
    Cell (record { pool = word words 1; cell = word words 3; free = word words 5 == 1 })
    else if word words 0 == 14 then Registers (registers_in words)
    else if word words 0 == 15 then Obtain (obtain_in words)
    else Bytes (record { block = word words 1; bytes = bytes_in words })
