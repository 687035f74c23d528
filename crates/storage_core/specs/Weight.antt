-- How much a service makes and removes: its change takes at most 32 elements, and 8 for each. Assembler Services Guide,
-- "Virtual storage management", "Subpool handling"; Assembler Services Reference, ATTACH, DETACH and CPOOL.
use Rattle.std.specs.Prelude.{ℕ, ◌+◌, length}
use Rattle.vsm_model.specs.Services.{Service, obtain, release, whole, attach, detach, end_task, run, store, build, get}
use Rattle.vsm_model.specs.Services.{free, delete}
use Rattle.vsm_model.specs.Subpools.{seen_or_own}
use Rattle.subpool_storage.specs.Extents.{extents}
use Rattle.storage_changes.specs.State.{StorageState}
use Rattle.storage_changes.specs.Meaning.{model_of}
pub use Rattle.task_plans.specs.TaskPlans.{tasks_weight}
pub use Rattle.cell_plans.specs.CellPlans.{cells_weight}

-- the extents that leave with a whole subpool
abbrev pub extents_weight : StorageState → Service → ℕ
extents_weight m (whole number) = length (extents m.subpools (seen_or_own (model_of m) number))
extents_weight m (obtain o) = 0
extents_weight m (release r) = 0
extents_weight m (store address bytes) = 0
extents_weight m (attach a) = 0
extents_weight m (detach task) = 0
extents_weight m end_task = 0
extents_weight m (run task) = 0
extents_weight m (build name header b) = 0
extents_weight m (get name g) = 0
extents_weight m (free name cell) = 0
extents_weight m (delete name) = 0

-- The subpools that are given or shared, the cells that are made, and the tasks, subpools, rows of sight, extents, cell
-- pools and extents of cell pools that leave. The cell pools that leave with a subpool aren't counted, nor is anything
-- of a store or of pages that a release empties: they take at most the 32.
abbrev pub weight : StorageState → Service → ℕ
weight m x = extents_weight m x + (tasks_weight m x + cells_weight m x)
