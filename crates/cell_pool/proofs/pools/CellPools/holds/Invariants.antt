use Rattle.std.proofs.Common.{◌≡◌, ◌-◌, take, None}
use Rattle.list_table.specs.ListTable.{entries, IsPlace}
use Rattle.cell_pool.specs.Pools.{first_with, meets}
use Rattle.cell_pool.specs.Kept.{pools_of}
use Rattle.cell_pool.proofs.pools.CellPools.holds.Given as goal

abbrev pub invariant-loop-place : goal.invariant-loop-place
invariant-loop-place l = record {
  place : IsPlace l.elements l.self.table l.place.index l.place.before;
  earlier : first_with (meets l.start l.len) (pools_of (take l.place.index (entries l.elements l.self.table))) ≡ None;
}

abbrev pub decreases-loop-place : goal.decreases-loop-place
decreases-loop-place l = l.count - l.place.index
