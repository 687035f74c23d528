use Rattle.std.proofs.Common.{◌≡◌, ◌++◌, length}
use Rattle.vsm_elements.specs.Ownership.{Leaves, Apart}
use Rattle.list_table.specs.ListTable.{entries, owned, IsTable}
use Rattle.cell_pool.proofs.ParkLemmas.{always, moved}
use Rattle.cell_pool.proofs.pools.CellPools.restore_pools.Given as goal

abbrev pub invariant-loop-rest : goal.invariant-loop-rest
invariant-loop-rest l = record {
  rest : IsTable l.elements l.rest;
  table : IsTable l.elements l.table;
  went : moved always (entries l.initial.elements l.initial.rest) (entries l.initial.elements l.initial.table) ≡ moved always (entries l.elements l.rest) (entries l.elements l.table);
  apart : Apart (owned l.elements l.rest) (owned l.elements l.table);
  owned : Leaves l.initial.elements l.elements (owned l.initial.elements l.initial.rest ++ owned l.initial.elements l.initial.table) (owned l.elements l.rest ++ owned l.elements l.table);
  spares : l.elements.spare ≡ l.initial.elements.spare;
}

abbrev pub decreases-loop-rest : goal.decreases-loop-rest
decreases-loop-rest l = length (entries l.elements l.rest)
