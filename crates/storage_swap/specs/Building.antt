-- A cell pool that is created, and how many elements the change takes that creates it.
use Rattle.std.specs.Prelude.{ℕ, ◌+◌, option_map}
use Rattle.cell_pool.specs.Pools.{Pool}
use Rattle.subpool_storage.specs.Subpools.{built_pool}
use Rattle.storage_swap.specs.declared.building.ReservedCellPool.{ReservedCellPool}

-- the cell pool that is created, under an id: the cells of its one extent are free
abbrev pub pool_as : ReservedCellPool → ℕ → Pool
pool_as p id = built_pool id p.name.now.bytes p.settings (option_map (λ h. h.items) p.header.now) p.start p.count

-- six for the cell pool, two for its extent, and those of its cells
abbrev pub pool_elements : ReservedCellPool → ℕ
pool_elements p = 8 + p.count

-- and the record that creates it, with the others and the blank elements
abbrev pub elements_to_build : ReservedCellPool → ℕ → ℕ → ℕ
elements_to_build p records blanks = pool_elements p + 1 + (records + blanks)
