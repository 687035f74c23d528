-- Cell pools that a task finds by name. Assembler Services Reference, CPOOL.
use Rattle.std.specs.Prelude.{◌≡◌, ℕ, List, Some, true}
use Rattle.vsm_model.specs.Cells.{sees_pool}
use Rattle.vsm_model.specs.CellPools.{cell_pool_in}
use Rattle.cell_pool.specs.Pools.{Pool}
use Rattle.storage_changes.specs.PoolTable.{cell_pool_of}
use Rattle.storage_changes.specs.State.{StorageState}
use Rattle.storage_changes.specs.Meaning.{model_of}

-- The cell pool of this id has the name, and the current task sees its subpool.
pub record IsSeen (m : StorageState) (name : List ℕ) (id : ℕ) (p : Pool) : Type 0 where
  pub there : m.subpools.cells id ≡ Some p
  pub id_is : p.id ≡ id
  pub named : p.name ≡ name
  pub row : cell_pool_in (model_of m).cell_pools name ≡ Some (cell_pool_of p)
  pub seen : sees_pool (model_of m) name ≡ true
