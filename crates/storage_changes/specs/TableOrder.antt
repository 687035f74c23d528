-- The table in the order of its names: which of its rows follow a name, and which of them is the first. Assembler
-- Services Reference, CPOOL.
use Rattle.std.specs.Prelude.{◌≡◌, ℕ, true, false, Option, Some, None, List, [], ◌∷◌, filter}
use Rattle.vsm_model.specs.CellPools.{CellPools}
use Rattle.cell_pool.specs.Pools.{Pool}
use Rattle.cell_pool.specs.Order.{is_before, is_after}
use Rattle.storage_changes.specs.NamedPools.{AreNamed}
use Rattle.storage_changes.specs.PoolTable.{cell_pool_of, cell_pools_in}

-- the rows whose names follow one that is given, or all of them if none is given
abbrev pub rows_behind : CellPools → Option (List ℕ) → CellPools
rows_behind table behind = filter (λ row. is_after behind row.0) table

-- no cell pool's name follows
abbrev pub NoneIsBehind : (ℕ → Option Pool) → Option (List ℕ) → Type 0
NoneIsBehind pools behind = (id : ℕ) (p : Pool) → pools id ≡ Some p → is_after behind p.name ≡ false

-- The name of the cell pool follows, and no name that does is before it.
pub record IsFirstBehind (pools : ℕ → Option Pool) (low : Option (List ℕ)) (p : Pool) : Type 0 where
  pub behind : is_after low p.name ≡ true
  pub first : (id : ℕ) (q : Pool) → pools id ≡ Some q → is_after low q.name ≡ true → is_before q.name p.name ≡ false

-- If none is given all rows follow; if no cell pool's name does, none does; otherwise the row of the first cell pool
-- that does is before those that follow its name.
pub record ComesInOrder (pools : ℕ → Option Pool) (behind : Option (List ℕ)) : Type 0 where
  pub all : rows_behind (cell_pools_in pools) None ≡ cell_pools_in pools
  pub none : NoneIsBehind pools behind → rows_behind (cell_pools_in pools) behind ≡ []
  pub next : (id : ℕ) (p : Pool) → pools id ≡ Some p → IsFirstBehind pools behind p
      → rows_behind (cell_pools_in pools) behind
      ≡ (p.name, cell_pool_of p) ∷ rows_behind (cell_pools_in pools) (Some p.name)

-- So the rows are read one after the other, in the order of their names.
abbrev pub RowsComeInOrder : Type 0
RowsComeInOrder = (pools : ℕ → Option Pool) (behind : Option (List ℕ)) → AreNamed pools → ComesInOrder pools behind
