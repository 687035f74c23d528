-- The cell pool of an id, as the plain machine has it.
use Rattle.std.specs.Prelude.{ℕ, Option, Some, None}
use Rattle.std.specs.Option.{option_map}
use Rattle.vsm_model.specs.CellPools.{CellPool}
use Rattle.storage_changes.specs.PoolTable.{cell_pool_of}
use Rattle.storage_core.specs.declared.storage.Storage.{Storage}
use Rattle.storage_map.specs.Cells.{cell_pool}

abbrev pub pool_at : Storage → Option ℕ → Option CellPool
pool_at s None = None
pool_at s (Some id) = option_map cell_pool_of (cell_pool s id)
