-- What a record of each kind does to the state, and what it takes and gives.
use Rattle.std.specs.Prelude.{ℕ, ◌+◌, ◌-◌, ◌/◌, ◌%◌, not, ◌&&◌, ◌==◌, List, [], ◌∷◌, Some, None}
use Rattle.std.specs.Prelude.{slice_index_or, if◌then◌else◌}
use Rattle.run_set.specs.Runs.{inside}
use Rattle.run_set.specs.Counts.{joins}
use Rattle.subpool_storage.specs.Subpools.{with_pages, with_free, with_own, with_storage_of}
use Rattle.subpool_storage.specs.Subpools.{with_sharer, with_passed, with_pool_of, with_changed}
use Rattle.cell_pool.specs.Pools.{Pool, without_first, with_first, extended, retracted}
use Rattle.storage_changes.specs.declared.record.AreaRecord.{AreaRecord}
use Rattle.storage_changes.specs.declared.record.ExtentRecord.{ExtentRecord}
use Rattle.storage_changes.specs.declared.record.PagesRecord.{PagesRecord}
use Rattle.storage_changes.specs.declared.record.OwnRecord.{OwnRecord}
use Rattle.storage_changes.specs.declared.record.QueuesRecord.{QueuesRecord}
use Rattle.storage_changes.specs.declared.record.RegisterRecord.{RegisterRecord}
use Rattle.storage_changes.specs.declared.record.RegistersRecord.{RegistersRecord}
use Rattle.storage_changes.specs.declared.record.ObtainRecord.{ObtainRecord}
use Rattle.storage_changes.specs.declared.record.BytesRecord.{BytesRecord}
use Rattle.storage_changes.specs.declared.record.TaskRecord.{TaskRecord}
use Rattle.storage_changes.specs.declared.record.TurnRecord.{TurnRecord}
use Rattle.storage_changes.specs.declared.record.SharerRecord.{SharerRecord}
use Rattle.storage_changes.specs.declared.record.PassRecord.{PassRecord}
use Rattle.storage_changes.specs.declared.record.CellPoolRecord.{CellPoolRecord}
use Rattle.storage_changes.specs.declared.record.CellExtentRecord.{CellExtentRecord}
use Rattle.storage_changes.specs.declared.record.CellRecord.{CellRecord}
use Rattle.storage_changes.specs.declared.record.Record.{Record}
use Rattle.storage_changes.specs.declared.record.Record.TheVariants.{Area, Extent, Pages, Own, Queues, Register, Bytes}
use Rattle.storage_changes.specs.declared.record.Record.TheVariants.{Registers, Task, Turn, Sharer, Pass}
use Rattle.storage_changes.specs.declared.record.Record.TheVariants.{CellPool, CellExtent, Cell, Obtain}
use Rattle.storage_changes.specs.Walk.{Walk, spare_joined, spare_left}

-- an area of a subpool's free storage

abbrev pub area_spare : Walk → AreaRecord → ℕ
area_spare w r = if r.free then spare_joined w.spare (joins (w.state.subpools.free r.subpool) r.area)
    else spare_left w.spare (joins (w.state.subpools.free r.subpool) r.area)

abbrev pub area_step : Walk → AreaRecord → Walk
area_step w r =
    record w {
      state = record w.state { subpools = with_free w.state.subpools r.subpool r.area r.free };
      spare = area_spare w r;
    }

-- a run of pages that a subpool has

abbrev pub extent_spare : Walk → ExtentRecord → ℕ
extent_spare w r = if r.present then spare_joined w.spare (joins (w.state.subpools.pages r.subpool) r.run)
    else spare_left w.spare (joins (w.state.subpools.pages r.subpool) r.run)

abbrev pub extent_step : Walk → ExtentRecord → Walk
extent_step w r =
    record w {
      state = record w.state { subpools = with_pages w.state.subpools r.subpool r.run r.present };
      spare = extent_spare w r;
    }

-- A run of pages that is assigned, with the frames that the change brings, or unassigned, with its frames given to the
-- change.

abbrev pub pages_spare : Walk → PagesRecord → ℕ
pages_spare w r = if r.assigned then spare_left w.spare (joins w.state.unassigned r.run)
    else spare_joined w.spare (joins w.state.unassigned r.run)

abbrev pub pages_step : Walk → PagesRecord → Walk
pages_step w r =
    record w {
      state = record w.state {
        unassigned = λ page. if inside page r.run then not r.assigned else w.state.unassigned page;
        bytes = λ a. if inside (a / 4096) r.run then (if r.assigned then w.brought a else None) else w.state.bytes a;
      };
      brought = λ a. if inside (a / 4096) r.run then None else w.brought a;
      given = λ a. if inside (a / 4096) r.run then (if r.assigned then None else w.state.bytes a) else w.given a;
      spare = pages_spare w r;
    }

-- an empty subpool of an owner

abbrev pub own_step : Walk → OwnRecord → Walk
own_step w r =
    record w {
      state = record w.state { subpools = with_own w.state.subpools r.subpool r.present };
      spare = if r.present then w.spare - 1 else w.spare + 1;
    }

-- the pages, the free storage and the cell pools of a subpool, which change places with what is parked under its name

abbrev pub queues_step : Walk → QueuesRecord → Walk
queues_step w r =
    record w {
      state = record w.state { subpools = with_storage_of w.state.subpools w.parked r.subpool };
      parked = with_storage_of w.parked w.state.subpools r.subpool;
    }

-- a register of a task

abbrev pub register_step : Walk → RegisterRecord → Walk
register_step w r =
    record w {
      state = record w.state {
        tasks = record w.state.tasks {
          words = λ task register. if (task == r.task) && (register == r.register) then r.word
              else w.state.tasks.words task register;
        };
      };
    }

-- four registers of a task

abbrev pub registers_step : Walk → RegistersRecord → Walk
registers_step w r =
    record w {
      state = record w.state {
        tasks = record w.state.tasks {
          words = λ task register.
              if (task == r.task) && inside register (record { start = r.first; len = 4 })
              then slice_index_or r.words (register - r.first) 0
              else w.state.tasks.words task register;
        };
      };
    }

-- A task below its parent, whose registers are zeros both if it exists and if it doesn't: it has four elements.

abbrev pub task_spare : Walk → TaskRecord → ℕ
task_spare w r = if r.present then w.spare - 4 else w.spare + 4

abbrev pub task_step : Walk → TaskRecord → Walk
task_step w r =
    record w {
      state = record w.state {
        tasks = record w.state.tasks {
          parents = λ task. if task == r.task then (if r.present then Some r.parent else None)
              else w.state.tasks.parents task;
        };
      };
      spare = task_spare w r;
    }

-- the task that makes the requests

abbrev pub turn_step : Walk → TurnRecord → Walk
turn_step w r = record w { state = record w.state { tasks = record w.state.tasks { current = r.task } } }

-- what a task sees of another's subpools

abbrev pub sharer_spare : Walk → SharerRecord → ℕ
sharer_spare w r = if r.present then w.spare - 1 else w.spare + 1

abbrev pub sharer_step : Walk → SharerRecord → Walk
sharer_step w r =
    record w {
      state = record w.state { subpools = with_sharer w.state.subpools r.subpool r.task r.present };
      spare = sharer_spare w r;
    }

-- whose a subpool is

abbrev pub pass_step : Walk → PassRecord → Walk
pass_step w r =
    record w { state = record w.state { subpools = with_passed w.state.subpools r.subpool r.to } }

-- a cell pool, which changes places with what is parked under its id

abbrev pub cell_pool_step : Walk → CellPoolRecord → Walk
cell_pool_step w r =
    record w {
      state = record w.state { subpools = with_pool_of w.state.subpools w.parked r.pool };
      parked = with_pool_of w.parked w.state.subpools r.pool;
    }

-- The last extent of a cell pool: it has two elements, and one for each of its cells.

abbrev pub extent_elements : CellExtentRecord → ℕ
extent_elements r = r.count + 2

abbrev pub cell_extent_change : CellExtentRecord → Pool → Pool
cell_extent_change r = if r.present then extended r.start r.count else retracted r.count

abbrev pub cell_extent_step : Walk → CellExtentRecord → Walk
cell_extent_step w r =
    record w {
      state = record w.state { subpools = with_changed w.state.subpools r.pool (cell_extent_change r) };
      spare = if r.present then w.spare - extent_elements r else w.spare + extent_elements r;
    }

-- the first free cell of a cell pool, which also has its element while it's in use

abbrev pub cell_change : CellRecord → Pool → Pool
cell_change r = if r.free then with_first r.cell else without_first

abbrev pub cell_step : Walk → CellRecord → Walk
cell_step w r =
    record w { state = record w.state { subpools = with_changed w.state.subpools r.pool (cell_change r) } }

-- sixteen bytes from an address that sixteen divides

abbrev pub bytes_step : Walk → BytesRecord → Walk
bytes_step w r =
    record w {
      state = record w.state {
        bytes = λ a. if a / 16 == r.block then Some (slice_index_or r.bytes (a % 16) 0) else w.state.bytes a;
      };
    }

-- an area of a subpool's free storage, and then a register of a task

abbrev pub obtain_step : Walk → ObtainRecord → Walk
obtain_step w r = register_step (area_step w r.area) r.register

-- each kind, and records in their order

abbrev pub step : Walk → Record → Walk
step w (Area r) = area_step w r
step w (Extent r) = extent_step w r
step w (Pages r) = pages_step w r
step w (Own r) = own_step w r
step w (Queues r) = queues_step w r
step w (Register r) = register_step w r
step w (Registers r) = registers_step w r
step w (Task r) = task_step w r
step w (Turn r) = turn_step w r
step w (Sharer r) = sharer_step w r
step w (Pass r) = pass_step w r
step w (CellPool r) = cell_pool_step w r
step w (CellExtent r) = cell_extent_step w r
step w (Cell r) = cell_step w r
step w (Bytes r) = bytes_step w r
step w (Obtain r) = obtain_step w r

abbrev pub walk : Walk → List Record → Walk
walk w [] = w
walk w (r ∷ rs) = walk (step w r) rs
