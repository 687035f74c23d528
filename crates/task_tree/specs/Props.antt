-- That elements hold tasks has at most one proof.
use Rattle.std.specs.Prelude.{ℕ, List}
use Rattle.std.proofs.Props.{props}
use Rattle.vsm_elements.specs.Store.{Store}
use Rattle.row_table.specs.declared.table.RowTable.{RowTable}
use Rattle.row_table.specs.Props.{IsTable-prop}
use Rattle.task_tree.specs.declared.tree.TaskTree.{TaskTree}
use Rattle.task_tree.specs.declared.parked.ParkedTasks.{ParkedTasks}
use Rattle.task_tree.specs.Kept.{IsKept, AreParked}
use Rattle.task_tree.specs.TaskTree.{IsTaskTree, IsParkedTasks}

IsKept-prop : (s : Store) (q : RowTable) (current : ℕ) (ids : List ℕ) → IsProp (IsKept s q current ids)
IsKept-prop s q current ids = hlevel (IsTable-prop, props)

AreParked-prop : (s : Store) (q : RowTable) → IsProp (AreParked s q)
AreParked-prop s q = hlevel (IsTable-prop, props)

pub IsTaskTree-prop : (s : Store) (q : TaskTree) → IsProp (IsTaskTree s q)
unfolding IsTaskTree
IsTaskTree-prop s q = IsKept-prop s q.rows q.current q.quarters

pub IsParkedTasks-prop : (s : Store) (p : ParkedTasks) → IsProp (IsParkedTasks s p)
unfolding IsParkedTasks
IsParkedTasks-prop s p = AreParked-prop s p.rows
