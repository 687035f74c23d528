-- When a record fits: its places have the other value, what it needs exists, and an element is left before and after
-- each call on a queue.
use Rattle.std.specs.Prelude.{◌≡◌, ◌≢◌, ℕ, ◌+◌, ◌*◌, ◌/◌, ◌^◌, ◌<◌, ◌≤◌, Bool, true, false, not, List, [], ◌∷◌, length}
use Rattle.std.specs.Prelude.{Option, Some, None, IsSome, if◌then◌else◌}
use Rattle.run_set.specs.Runs.{inside}
use Rattle.subpool_storage.specs.Subpools.{is_there, owned_by, CanExchange, IsSingle}
use Rattle.cell_pool.specs.Pools.{Pool, uses, meets, with_first, without_first, extended, retracted}
use Rattle.vsm_model.specs.Subpools.{same_subpool}
use Rattle.storage_changes.specs.declared.record.AreaRecord.{AreaRecord}
use Rattle.storage_changes.specs.declared.record.ExtentRecord.{ExtentRecord}
use Rattle.storage_changes.specs.declared.record.PagesRecord.{PagesRecord}
use Rattle.storage_changes.specs.declared.record.OwnRecord.{OwnRecord}
use Rattle.storage_changes.specs.declared.record.QueuesRecord.{QueuesRecord}
use Rattle.storage_changes.specs.declared.record.RegisterRecord.{RegisterRecord}
use Rattle.storage_changes.specs.declared.record.RegistersRecord.{RegistersRecord}
use Rattle.storage_changes.specs.declared.record.ObtainRecord.{ObtainRecord}
use Rattle.storage_changes.specs.declared.record.BytesRecord.{BytesRecord}
use Rattle.storage_changes.specs.declared.record.TaskRecord.{TaskRecord}
use Rattle.storage_changes.specs.declared.record.TurnRecord.{TurnRecord}
use Rattle.storage_changes.specs.declared.record.SharerRecord.{SharerRecord}
use Rattle.storage_changes.specs.declared.record.PassRecord.{PassRecord}
use Rattle.storage_changes.specs.declared.record.CellPoolRecord.{CellPoolRecord}
use Rattle.storage_changes.specs.declared.record.CellExtentRecord.{CellExtentRecord}
use Rattle.storage_changes.specs.declared.record.CellRecord.{CellRecord}
use Rattle.storage_changes.specs.declared.record.Record.{Record}
use Rattle.storage_changes.specs.declared.record.Record.TheVariants.{Area, Extent, Pages, Own, Queues, Register, Bytes}
use Rattle.storage_changes.specs.declared.record.Record.TheVariants.{Registers, Task, Turn, Sharer, Pass}
use Rattle.storage_changes.specs.declared.record.Record.TheVariants.{CellPool, CellExtent, Cell, Obtain}
use Rattle.storage_changes.specs.Walk.{Walk}
use Rattle.storage_changes.specs.Steps.{area_spare, extent_spare, pages_spare, own_step, extent_elements, step}

pub record AreaFits (w : Walk) (r : AreaRecord) : Type 0 where
  pub there : is_there w.state.subpools r.subpool ≡ true
  pub some : 0 < r.area.len
  pub high : r.area.start + r.area.len ≤ 2 ^ 29
  pub other : (d : ℕ) → inside d r.area ≡ true → w.state.subpools.free r.subpool d ≡ not r.free
  pub room : 0 < w.spare
  pub room_after : 0 < area_spare w r

pub record ExtentFits (w : Walk) (r : ExtentRecord) : Type 0 where
  pub there : is_there w.state.subpools r.subpool ≡ true
  pub some : 0 < r.run.len
  pub high : r.run.start + r.run.len ≤ 2 ^ 20
  pub other : (page : ℕ) → inside page r.run ≡ true → w.state.subpools.pages r.subpool page ≡ not r.present
  pub room : 0 < w.spare
  pub room_after : 0 < extent_spare w r

-- where the frame of a page is: with the change that brings it, or in the storage that gives it
pub record FrameIs (assigned : Bool) (brought bytes given : Option ℕ) : Type 0 where
  pub there : IsSome (if assigned then brought else bytes)
  pub not_with_other : (if assigned then bytes else brought) ≡ None
  pub not_given : given ≡ None

pub record PagesFits (w : Walk) (r : PagesRecord) : Type 0 where
  pub some : 0 < r.run.len
  pub high : r.run.start + r.run.len ≤ 2 ^ 20
  pub other : (page : ℕ) → inside page r.run ≡ true → w.state.unassigned page ≡ r.assigned
  pub frame : (a : ℕ) → inside (a / 4096) r.run ≡ true → FrameIs r.assigned (w.brought a) (w.state.bytes a) (w.given a)
  pub room : 0 < w.spare
  pub room_after : 0 < pages_spare w r

-- The owner is a task from 1 to 64, and nobody else sees its subpool, which is empty.
pub record OwnFits (w : Walk) (r : OwnRecord) : Type 0 where
  pub owner : (1 ≤ r.subpool.owner) × (r.subpool.owner ≤ 64)
  pub number : r.subpool.number ≤ 127
  pub other :
      w.state.subpools.sight r.subpool.owner r.subpool.number ≡ (if r.present then None else Some r.subpool.owner)
  pub alone :
      (task : ℕ) → w.state.subpools.sight task r.subpool.number ≡ Some r.subpool.owner → task ≡ r.subpool.owner
  pub no_pages : (page : ℕ) → w.state.subpools.pages r.subpool page ≡ false
  pub none_free : (d : ℕ) → w.state.subpools.free r.subpool d ≡ false
  pub room : 0 < w.spare
  pub room_after : 0 < (own_step w r).spare

-- The subpool exists, and is parked under the same name. No cell pool both exists and is parked, and no name occurs
-- twice among those that exist then.
pub record QueuesFits (w : Walk) (r : QueuesRecord) : Type 0 where
  pub there : is_there w.state.subpools r.subpool ≡ true
  pub parked : is_there w.parked r.subpool ≡ true
  pub apart : (id : ℕ) → IsSome (w.state.subpools.cells id) → w.parked.cells id ≡ None
  pub names : CanExchange w.state.subpools w.parked r.subpool

pub record RegisterFits (w : Walk) (r : RegisterRecord) : Type 0 where
  pub task : IsSome (w.state.tasks.parents r.task)
  pub register : r.register < 16

-- There are four words, and the same number of registers from the first on.
pub record RegistersFits (w : Walk) (r : RegistersRecord) : Type 0 where
  pub task : IsSome (w.state.tasks.parents r.task)
  pub first : r.first + 4 ≤ 16
  pub four : length r.words ≡ 4

-- The task is neither the first nor the current one, its parent exists, it is nobody's parent, and its registers are
-- zeros.
pub record TaskFits (w : Walk) (r : TaskRecord) : Type 0 where
  pub range : (1 ≤ r.task) × (r.task ≤ 64)
  pub other : w.state.tasks.parents r.task ≡ (if r.present then None else Some r.parent)
  pub parent : IsSome (w.state.tasks.parents r.parent)
  pub outside : r.parent ≢ r.task
  pub childless : (task : ℕ) → w.state.tasks.parents task ≢ Some r.task
  pub idle : w.state.tasks.current ≢ r.task
  pub later : r.task ≢ 1
  pub zeros : (register : ℕ) → w.state.tasks.words r.task register ≡ 0
  pub room : 4 ≤ w.spare + (if r.present then 0 else 4)

pub record TurnFits (w : Walk) (r : TurnRecord) : Type 0 where
  pub task : IsSome (w.state.tasks.parents r.task)
  pub current : IsSome (w.state.tasks.parents w.state.tasks.current)

-- The subpool exists, and the task, which isn't its owner, sees it or none of its number.
pub record SharerFits (w : Walk) (r : SharerRecord) : Type 0 where
  pub there : is_there w.state.subpools r.subpool ≡ true
  pub range : (1 ≤ r.task) × (r.task ≤ 64)
  pub sharer : r.task ≢ r.subpool.owner
  pub other :
      w.state.subpools.sight r.task r.subpool.number ≡ (if r.present then None else Some r.subpool.owner)
  pub room : 1 ≤ w.spare + (if r.present then 0 else 1)

-- The subpool exists, and the task that it passes to sees and owns none of its number.
pub record PassFits (w : Walk) (r : PassRecord) : Type 0 where
  pub there : is_there w.state.subpools r.subpool ≡ true
  pub owner : (1 ≤ r.subpool.owner) × (r.subpool.owner ≤ 64)
  pub to : (1 ≤ r.to) × (r.to ≤ 64)
  pub unseen : w.state.subpools.sight r.to r.subpool.number ≡ None
  pub unowned : (task : ℕ) → w.state.subpools.sight task r.subpool.number ≢ Some r.to
  pub no_pages : (page : ℕ) → w.state.subpools.pages (owned_by r.subpool r.to) page ≡ false
  pub none_free : (d : ℕ) → w.state.subpools.free (owned_by r.subpool r.to) d ≡ false
  pub no_cells :
      (id : ℕ) (p : Pool) → w.state.subpools.cells id ≡ Some p
      → same_subpool p.settings.subpool (owned_by r.subpool r.to) ≡ false

-- The cell pool exists if it is removed, or is parked if it is created, but not both; no other one, existing or parked,
-- has its name.
pub record CellPoolFits (w : Walk) (r : CellPoolRecord) : Type 0 where
  pub here : IsSome (if r.present then w.parked.cells r.pool else w.state.subpools.cells r.pool)
  pub not_there : (if r.present then w.state.subpools.cells r.pool else w.parked.cells r.pool) ≡ None
  pub single :
      (p : Pool) → (if r.present then w.parked.cells r.pool else w.state.subpools.cells r.pool) ≡ Some p
      → IsSingle w.state.subpools w.parked r.pool p.name

-- each cell pool that exists has its own id
abbrev pub AreUnderTheirIds : (ℕ → Option Pool) → Type 0
AreUnderTheirIds pools = (id : ℕ) (p : Pool) → pools id ≡ Some p → p.id ≡ id

-- The extent has a cell, lies within 32 bits and overlaps no other one of the cell pool; if it's the last one, its
-- cells are the end of the free ones.
pub record IsExtent (r : CellExtentRecord) (p rest : Pool) : Type 0 where
  pub some : 0 < r.count
  pub range : r.start + r.count * rest.settings.size ≤ 2 ^ 32
  pub apart : meets r.start (r.count * rest.settings.size) rest ≡ false
  pub last : r.present ≡ false → p ≡ extended r.start r.count rest

pub record CellExtentFits (w : Walk) (r : CellExtentRecord) : Type 0 where
  pub ids : AreUnderTheirIds w.state.subpools.cells
  pub there : IsSome (w.state.subpools.cells r.pool)
  pub extent :
      (p : Pool) → w.state.subpools.cells r.pool ≡ Some p
      → IsExtent r p (if r.present then p else retracted r.count p)
  pub room : extent_elements r ≤ w.spare + (if r.present then 0 else extent_elements r)

-- The cell is in use, or the first free one.
pub record IsCell (r : CellRecord) (p rest : Pool) : Type 0 where
  pub used : uses rest r.cell ≡ true
  pub first : r.free ≡ false → p ≡ with_first r.cell rest

pub record CellFits (w : Walk) (r : CellRecord) : Type 0 where
  pub ids : AreUnderTheirIds w.state.subpools.cells
  pub there : IsSome (w.state.subpools.cells r.pool)
  pub cell :
      (p : Pool) → w.state.subpools.cells r.pool ≡ Some p → IsCell r p (if r.free then p else without_first p)

-- there are sixteen bytes, and each of their addresses has one
pub record BytesFits (w : Walk) (r : BytesRecord) : Type 0 where
  pub sixteen : length r.bytes ≡ 16
  pub there : (a : ℕ) → a / 16 ≡ r.block → IsSome (w.state.bytes a)

-- the area and the register do
abbrev pub ObtainFits : Walk → ObtainRecord → Type 0
ObtainFits w r = AreaFits w r.area × RegisterFits w r.register

-- each kind, and records in their order

abbrev pub Fits : Walk → Record → Type 0
Fits w (Area r) = AreaFits w r
Fits w (Extent r) = ExtentFits w r
Fits w (Pages r) = PagesFits w r
Fits w (Own r) = OwnFits w r
Fits w (Queues r) = QueuesFits w r
Fits w (Register r) = RegisterFits w r
Fits w (Registers r) = RegistersFits w r
Fits w (Task r) = TaskFits w r
Fits w (Turn r) = TurnFits w r
Fits w (Sharer r) = SharerFits w r
Fits w (Pass r) = PassFits w r
Fits w (CellPool r) = CellPoolFits w r
Fits w (CellExtent r) = CellExtentFits w r
Fits w (Cell r) = CellFits w r
Fits w (Bytes r) = BytesFits w r
Fits w (Obtain r) = ObtainFits w r

abbrev pub FitInTurn : Walk → List Record → Type 0
FitInTurn w [] = Unit {0}
FitInTurn w (r ∷ rs) = Fits w r × FitInTurn (step w r) rs
