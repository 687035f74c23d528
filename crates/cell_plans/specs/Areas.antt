-- The areas of the extents of a cell pool, in doublewords.
use Rattle.std.specs.Prelude.{List, [], map, take, Option, Some, None}
use Rattle.run_set.specs.Runs.{Run}
use Rattle.cell_pool.specs.Pools.{Pool}
use Rattle.storage_changes.specs.State.{StorageState}
use Rattle.cell_plans.specs.declared.areas.FirstExtents.{FirstExtents}
use Rattle.cell_plans.specs.Emptied.{area_of}

-- those of a cell pool, if it exists, the first one first
abbrev pub areas_of : Option Pool → List Run
areas_of None = []
areas_of (Some p) = map (area_of p.settings.size) p.extents

-- those of its first extents
abbrev pub first_areas : StorageState → FirstExtents → List Run
first_areas m first = take first.count (areas_of (m.subpools.cells first.pool))
