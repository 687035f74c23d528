use Rattle.std.proofs.Common.{◌≡◌, ◌+◌, ◌≤◌, ◌++◌, [], take, drop, length}
use Rattle.vsm_elements.specs.Ownership.{Leaves, Apart}
use Rattle.list_table.specs.ListTable.{entries, owned, IsTable, IsPlace}
use Rattle.cell_pool.specs.Pools.{lies_in}
use Rattle.cell_pool.proofs.ParkLemmas.{staying, moved}
use Rattle.cell_pool.proofs.pools.CellPools.park_pools.Given as goal

abbrev pub invariant-loop-left : goal.invariant-loop-left
invariant-loop-left l = record {
  table : IsTable l.elements l.self.table;
  out : IsTable l.elements l.out;
  left : l.left + l.place.index ≡ length (entries l.elements l.self.table);
  within : l.left + l.place.index ≤ l.count;
  place : IsPlace l.elements l.self.table l.place.index l.place.before;
  rest : staying (lies_in l.subpool) (entries l.initial.elements l.initial.self.table) ≡ take l.place.index (entries l.elements l.self.table) ++ staying (lies_in l.subpool) (drop l.place.index (entries l.elements l.self.table));
  went : moved (lies_in l.subpool) (entries l.initial.elements l.initial.self.table) [] ≡ moved (lies_in l.subpool) (drop l.place.index (entries l.elements l.self.table)) (entries l.elements l.out);
  apart : Apart (owned l.elements l.self.table) (owned l.elements l.out);
  owned : Leaves l.initial.elements l.elements (owned l.initial.elements l.initial.self.table) (owned l.elements l.self.table ++ owned l.elements l.out);
  spares : l.elements.spare ≡ l.initial.elements.spare;
}

abbrev pub decreases-loop-left : goal.decreases-loop-left
decreases-loop-left l = l.left
