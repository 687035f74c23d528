-- The numbers of a cell pool.
-- Assembler Services Reference, CPOOL.
use Rattle.std.specs.Prelude.{◌≡◌, ℕ, ◌+◌, ◌*◌, ◌-◌, min, List, [], ◌∷◌, length}
use Rattle.vsm_model.specs.CellPools.{CellExtent, CellPool, CellPools}
use Rattle.vsm_model.specs.Regions.{doublewords}
use Rattle.explain_report.specs.declared.pool_figures.PoolFigures.{PoolFigures}

-- the cells of all extents, and the bytes that they take, each up to the end of its last doubleword
abbrev pub cells_in : List CellExtent → ℕ
cells_in [] = 0
cells_in (x ∷ xs) = x.cells + cells_in xs

abbrev pub bytes_in : ℕ → List CellExtent → ℕ
bytes_in size [] = 0
bytes_in size (x ∷ xs) = 8 * doublewords (x.cells * size) + bytes_in size xs

-- a number as it's shown: 2^64 - 1 at most
abbrev pub shown : ℕ → ℕ
shown n = min n 18446744073709551615

pub record HasExtents (size : ℕ) (xs : List CellExtent) (f : PoolFigures) : Type 0 where
  pub extents : f.extents ≡ shown (length xs)
  pub bytes : f.bytes ≡ shown (bytes_in size xs)
  pub cells : f.cells ≡ shown (cells_in xs)

abbrev pub free_in : CellPool → ℕ
free_in pool = shown (length pool.free)

abbrev pub figures_of : CellPool → PoolFigures
figures_of pool =
    record {
      extents = shown (length pool.extents);
      bytes = shown (bytes_in pool.size pool.extents);
      cells = shown (cells_in pool.extents);
      free = free_in pool;
    }

-- the cells in use
abbrev pub used_in : PoolFigures → ℕ
used_in f = f.cells - f.free

-- the sum of a number of each of these cell pools, and all their sums
abbrev pub total_of : (PoolFigures → ℕ) → CellPools → ℕ
total_of part [] = 0
total_of part (row ∷ rows) = part (figures_of row.1) + total_of part rows

abbrev pub sums_of : CellPools → PoolFigures
sums_of pools =
    record {
      extents = shown (total_of (λ f. f.extents) pools);
      bytes = shown (total_of (λ f. f.bytes) pools);
      cells = shown (total_of (λ f. f.cells) pools);
      free = shown (total_of (λ f. f.free) pools);
    }

-- the sums of both
abbrev pub added : PoolFigures → PoolFigures → PoolFigures
added f g =
    record {
      extents = shown (f.extents + g.extents);
      bytes = shown (f.bytes + g.bytes);
      cells = shown (f.cells + g.cells);
      free = shown (f.free + g.free);
    }
