-- Laws of the table of cell pools: what is found in it, and what it becomes if cell pools are created, change and are
-- deleted.
use Rattle.std.specs.Prelude.{◌≡◌, ◌≢◌, ℕ, ◌^◌, ◌<◌, Bool, true, not, ◌==◌, ◌↔◌, if◌then◌else◌, Option, Some, None}
use Rattle.std.specs.Prelude.{IfSome, option_map, List, map, filter, length, AllPairs}
use Rattle.std.specs.List.{list_any}
use Rattle.vsm_model.specs.CellPools.{CellPool, CellPools, are_ascending, cell_pool_in, with_cell_pool}
use Rattle.vsm_model.specs.CellPools.{without_cell_pool}
use Rattle.vsm_model.specs.Releasing.{overlaps_extent}
use Rattle.cell_pool.specs.Pools.{Pool, at_id, all_but, id_in, meets}
use Rattle.storage_changes.specs.NamedPools.{AreNamed}
use Rattle.storage_changes.specs.PoolTable.{cell_pool_of, cell_pools_in}

-- the area has a byte in common with an extent of the table
abbrev pub overlaps_table : CellPools → ℕ → ℕ → Bool
overlaps_table table address length =
    list_any (λ row. list_any (overlaps_extent address length row.1) row.1.extents) table

-- its names ascend
abbrev pub TablesAscend : Type 0
TablesAscend = (pools : ℕ → Option Pool) → are_ascending (cell_pools_in pools) ≡ true

-- a cell pool is found under its name, and what is found is one
abbrev pub PoolsAreFound : Type 0
PoolsAreFound = (pools : ℕ → Option Pool) → AreNamed pools
    → ((id : ℕ) (p : Pool) → pools id ≡ Some p
    → cell_pool_in (cell_pools_in pools) p.name ≡ Some (cell_pool_of p))
    × ((name : List ℕ) → IfSome (cell_pool_in (cell_pools_in pools) name) (λ found.
    ∥ ((id : ℕ) × (p : Pool) × (pools id ≡ Some p) × (p.name ≡ name) × (found ≡ cell_pool_of p)) ∥₁))

-- none is found if no cell pool has the name
abbrev pub OthersAreNotFound : Type 0
OthersAreNotFound = (pools : ℕ → Option Pool) (name : List ℕ) → AreNamed pools
    → ((id : ℕ) (p : Pool) → pools id ≡ Some p → p.name ≡ name → ⊥)
    → cell_pool_in (cell_pools_in pools) name ≡ None

-- One that changes and keeps its name has the changed row,
abbrev pub ChangedPoolsHaveTheirRow : Type 0
ChangedPoolsHaveTheirRow = (pools : ℕ → Option Pool) (id : ℕ) (p : Pool) (change : Pool → Pool) → AreNamed pools
    → pools id ≡ Some p → (change p).name ≡ p.name
    → cell_pools_in (λ i. option_map (at_id id change) (pools i))
    ≡ with_cell_pool (cell_pools_in pools) p.name (cell_pool_of (change p))

-- one that is created has a row of its own,
abbrev pub NewPoolsHaveARow : Type 0
NewPoolsHaveARow = (pools : ℕ → Option Pool) (id : ℕ) (p : Pool) → AreNamed pools → id < 2 ^ 32 → pools id ≡ None
    → ((i : ℕ) (q : Pool) → pools i ≡ Some q → q.name ≡ p.name → ⊥)
    → cell_pools_in (λ i. if i == id then Some p else pools i)
    ≡ with_cell_pool (cell_pools_in pools) p.name (cell_pool_of p)

-- one that is deleted has none,
abbrev pub GonePoolsHaveNoRow : Type 0
GonePoolsHaveNoRow = (pools : ℕ → Option Pool) (id : ℕ) (p : Pool) → AreNamed pools → pools id ≡ Some p
    → cell_pools_in (λ i. if i == id then None else pools i) ≡ without_cell_pool (cell_pools_in pools) p.name

-- if all that pass a test are deleted, the others have theirs,
abbrev pub RowsOfTheOthersStay : Type 0
RowsOfTheOthersStay = (pools : ℕ → Option Pool) (test : Pool → Bool) (passes : CellPool → Bool) → AreNamed pools
    → ((p : Pool) → passes (cell_pool_of p) ≡ test p)
    → cell_pools_in (λ i. all_but test (pools i)) ≡ filter (λ row. not (passes row.1)) (cell_pools_in pools)

-- and if all change, and keep their names, each row does.
abbrev pub AllRowsChange : Type 0
AllRowsChange = (pools : ℕ → Option Pool) (change : Pool → Pool) (row_change : CellPool → CellPool) → AreNamed pools
    → ((p : Pool) → (change p).name ≡ p.name) → ((p : Pool) → cell_pool_of (change p) ≡ row_change (cell_pool_of p))
    → cell_pools_in (λ i. option_map change (pools i)) ≡ map (λ row. (row.0, row_change row.1)) (cell_pools_in pools)

-- The table has as many rows as there are cell pools: these are in a list, each once.
abbrev pub RowsAreCounted : Type 0
RowsAreCounted = (pools : ℕ → Option Pool) (list : List Pool) → AreNamed pools
    → ((id : ℕ) → pools id ≡ id_in id list) → AllPairs (λ p q. p.id ≢ q.id) list
    → length (cell_pools_in pools) ≡ length list

-- An area has a byte in common with an extent of the table exactly if it meets one of the cell pools.
abbrev pub OverlapsAreMet : Type 0
OverlapsAreMet = (pools : ℕ → Option Pool) (address length : ℕ) → AreNamed pools
    → (overlaps_table (cell_pools_in pools) address length ≡ true)
    ↔ (∥ ((id : ℕ) × (p : Pool) × (pools id ≡ Some p) × (meets address length p ≡ true)) ∥₁)
