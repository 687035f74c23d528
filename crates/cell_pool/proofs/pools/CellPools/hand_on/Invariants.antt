use Rattle.std.proofs.Common.{◌≡◌, ◌-◌, ◌++◌, take, drop, length}
use Rattle.std.specs.Prelude.{map}
use Rattle.vsm_elements.specs.Ownership.{Leaves}
use Rattle.list_table.specs.ListTable.{entries, owned, IsTable, IsPlace}
use Rattle.cell_pool.proofs.HandLemmas.{hand}
use Rattle.cell_pool.proofs.pools.CellPools.hand_on.Given as goal

abbrev pub invariant-loop-place : goal.invariant-loop-place
invariant-loop-place l = record {
  table : IsTable l.elements l.self.table;
  place : IsPlace l.elements l.self.table l.place.index l.place.before;
  long : length (entries l.elements l.self.table) ≡ length (entries l.initial.elements l.self.table);
  rest : map (hand l.subpool l.to) (entries l.initial.elements l.self.table) ≡ take l.place.index (entries l.elements l.self.table) ++ map (hand l.subpool l.to) (drop l.place.index (entries l.elements l.self.table));
  owned : Leaves l.initial.elements l.elements (owned l.initial.elements l.self.table) (owned l.elements l.self.table);
  spares : l.elements.spare ≡ l.initial.elements.spare;
}

abbrev pub decreases-loop-place : goal.decreases-loop-place
decreases-loop-place l = l.count - l.place.index
