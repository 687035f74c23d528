-- Cell pools by their ids. Assembler Services Reference, CPOOL.
use Rattle.std.specs.Prelude.{◌≡◌, ℕ, ◌^◌, ◌<◌, Option, Some}
use Rattle.cell_pool.specs.Pools.{Pool, HasCells}

-- Each cell pool is found under its own id, which is a number of 32 bits, and has a name of its own; its free cells are
-- cells of its extents.
pub record AreNamed (pools : ℕ → Option Pool) : Type 0 where
  pub ids : (id : ℕ) (p : Pool) → pools id ≡ Some p → p.id ≡ id
  pub high : (id : ℕ) (p : Pool) → pools id ≡ Some p → id < 2 ^ 32
  pub once : (i j : ℕ) (p q : Pool) → pools i ≡ Some p → pools j ≡ Some q → p.name ≡ q.name → i ≡ j
  pub cells : (id : ℕ) (p : Pool) → pools id ≡ Some p → HasCells p
