-- The cell pools of the storage as the plain machine's table by name. Assembler Services Reference, CPOOL.
use Rattle.std.specs.Prelude.{ℕ, zero, suc, ◌^◌, Option, Some, None, [], map}
use Rattle.vsm_model.specs.CellPools.{CellPool, CellExtent, CellPools, with_cell_pool}
use Rattle.cell_pool.specs.declared.settings.Extent.{Extent}
use Rattle.cell_pool.specs.Pools.{Pool}

-- an extent, and a cell pool, on the plain machine
abbrev pub extent_of : Extent → CellExtent
extent_of x = record { address = x.start; cells = x.count }

abbrev pub cell_pool_of : Pool → CellPool
cell_pool_of p =
    record {
      subpool = p.settings.subpool;
      size = p.settings.size;
      primary = p.settings.primary;
      secondary = p.settings.secondary;
      location = p.settings.location;
      header = p.header;
      extents = map extent_of p.extents;
      free = p.cells;
    }

-- a cell pool that exists has its place in the table
abbrev pub with_row : CellPools → Option Pool → CellPools
with_row table None = table
with_row table (Some p) = with_cell_pool table p.name (cell_pool_of p)

-- those of ids below a number
abbrev pub cell_pools_below : (ℕ → Option Pool) → ℕ → CellPools
cell_pools_below pools zero = []
cell_pools_below pools (suc id) = with_row (cell_pools_below pools id) (pools id)

-- All: an id is a number of 32 bits. Closed, since there may be many.
unfoldable pub cell_pools_in : (ℕ → Option Pool) → CellPools
cell_pools_in pools = cell_pools_below pools (2 ^ 32)
