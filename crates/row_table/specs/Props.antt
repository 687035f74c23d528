-- That elements hold a table has at most one proof.
use Rattle.std.proofs.Props.{props}
use Rattle.vsm_elements.specs.Store.{Store}
use Rattle.row_table.specs.declared.tree.ItemTree.{ItemTree}
use Rattle.row_table.specs.ItemProps.{IsTree-prop, Ascends-prop}
use Rattle.row_table.specs.declared.table.RowTable.{RowTable}
use Rattle.row_table.specs.Kept.{IsKept}
use Rattle.row_table.specs.RowTable.{IsTable}

IsKept-prop : (s : Store) (q : ItemTree) → IsProp (IsKept s q)
IsKept-prop s q = hlevel (IsTree-prop, Ascends-prop, props)

pub IsTable-prop : (s : Store) (q : RowTable) → IsProp (IsTable s q)
unfolding IsTable
IsTable-prop s q = IsKept-prop s q.tree
