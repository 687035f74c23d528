-- A change of the storage, and what it leads to.
use Rattle.std.specs.Prelude.{◌≡◌, ℕ, ◌+◌, ◌/◌, ◌==◌, true, false, List, [], ◌∷◌, ◌++◌, length}
use Rattle.std.specs.Prelude.{Option, Some, None, IsSome, if◌then◌else◌}
use Rattle.run_set.specs.Runs.{Run, inside}
use Rattle.vsm_model.specs.declared.Subpool.{Subpool}
use Rattle.cell_pool.specs.Pools.{Pool}
use Rattle.subpool_storage.specs.Extents.{extents}
use Rattle.subpool_storage.specs.Subpools.{Subpools, no_subpools, with_own}
use Rattle.storage_changes.specs.declared.record.Record.{Record}
use Rattle.storage_changes.specs.declared.record.Record.TheVariants.{Pages, Queues, CellPool}
use Rattle.storage_changes.specs.State.{StorageState}
use Rattle.storage_changes.specs.Walk.{Walk}
use Rattle.storage_changes.specs.Steps.{walk}
use Rattle.storage_changes.specs.Turned.{back_onto}
use Rattle.storage_changes.specs.Fits.{FitInTurn}

-- the records in their order, how many blank elements it has, the bytes of the frames that it brings, by their
-- addresses, and the subpools that it has parked
pub record Change : Type 0 where
  pub records : List Record
  pub blanks : ℕ
  pub frames : ℕ → Option ℕ
  pub parked : Subpools

-- what these records mean, with blank elements, and frames of zeros for the pages of a run
abbrev pub change_of : List Record → ℕ → Run → Change
change_of records blanks fresh =
    record {
      records = records;
      blanks = blanks;
      frames = λ a. if inside (a / 4096) fresh then Some 0 else None;
      parked = no_subpools;
    }

-- the pages of these runs become unassigned, and their frames the change's
abbrev pub unassigned_records : List Run → List Record
unassigned_records [] = []
unassigned_records (r ∷ rs) = Pages (record { run = r; assigned = false }) ∷ unassigned_records rs

-- The pages, the free storage and the cell pools of a subpool move into the change as they are: they change places with
-- those of an empty one that the change has parked under its name. Its pages become unassigned.
abbrev pub emptied_records : Subpools → Subpool → List Record
emptied_records m p = Queues (record { subpool = p }) ∷ unassigned_records (extents m p)

-- What these records mean at a state, if a subpool is emptied first, or none is: an extent that leaves takes one more
-- blank element.
abbrev pub change_from : Subpools → Option Subpool → List Record → ℕ → Run → Change
change_from m None records blanks fresh = change_of records blanks fresh
change_from m (Some p) records blanks fresh =
    record (change_of (emptied_records m p ++ records) (length (extents m p) + blanks) fresh) {
      parked = with_own no_subpools p true;
    }

-- the empty run
abbrev pub no_pages : Run
no_pages = record { start = 0; len = 0 }

-- empty subpools under these names
abbrev pub empties : List Subpool → Subpools
empties [] = no_subpools
empties (p ∷ ps) = with_own (empties ps) p true

-- what records mean that may take the storage of these subpools, with empty ones parked under their names
abbrev pub change_parking : List Subpool → List Record → ℕ → Change
change_parking ps records blanks = record (change_of records blanks no_pages) { parked = empties ps }

-- a change that first creates a cell pool, which it has parked until then
abbrev pub change_building : Pool → Change → Change
change_building p d =
    record d {
      records = CellPool (record { pool = p.id; present = true }) ∷ d.records;
      parked = record d.parked { cells = λ id. if id == p.id then Some p else d.parked.cells id };
    }

-- before the first record
abbrev pub outset : StorageState → Change → Walk
outset m d = record { state = m; brought = d.frames; given = λ a. None; parked = d.parked; spare = d.blanks }

-- after the last record
abbrev pub arrival : StorageState → Change → Walk
arrival m d = walk (outset m d) d.records

-- Each record fits where it is applied, and the frames are those of unassigned pages, which become assigned.
pub record Fit (m : StorageState) (d : Change) : Type 0 where
  pub in_turn : FitInTurn (outset m d) d.records
  pub fresh : (a : ℕ) → IsSome (d.frames a) → m.unassigned (a / 4096) ≡ true
  pub brought : (a : ℕ) → (arrival m d).brought a ≡ None

-- the state that the change leads to
abbrev pub overlay : StorageState → Change → StorageState
overlay m d = (arrival m d).state

-- the change that leads back: the records with what their places had, the last one first, the elements that are left,
-- the frames that were given, and what is parked then
abbrev pub inverse : StorageState → Change → Change
inverse m d = record {
  records = back_onto (outset m d) [] d.records;
  blanks = (arrival m d).spare;
  frames = (arrival m d).given;
  parked = (arrival m d).parked;
}
