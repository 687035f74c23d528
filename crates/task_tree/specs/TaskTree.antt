-- What a contract sees of a `TaskTree`: the parents and the registers of its tasks, the current task, and the
-- elements that it owns.
use Rattle.std.specs.Prelude.{ℕ, List}
use Rattle.vsm_elements.specs.Store.{Store}
use Rattle.row_table.specs.RowTable.{row}
use Rattle.row_table.specs.RowTable
use Rattle.task_tree.specs.declared.tree.TaskTree.{TaskTree}
use Rattle.task_tree.specs.declared.parked.ParkedTasks.{ParkedTasks}
use Rattle.task_tree.specs.Tasks.{Parents, Words}
use Rattle.task_tree.specs.Kept.{parents_in, words_in, IsKept, AreParked}

-- the parent of a task that exists
unfoldable pub parent : Store → TaskTree → Parents
parent s q = parents_in (row s q.rows)

-- the word of a register from 0 to 15, and 0 if no task exists
unfoldable pub word : Store → TaskTree → Words
word s q = words_in (row s q.rows)

-- the task that makes the requests
unfoldable pub current : TaskTree → ℕ
current q = q.current

unfoldable pub owned : Store → TaskTree → List ℕ
owned s q = RowTable.owned s q.rows

unfoldable pub IsTaskTree : Store → TaskTree → Type 0
IsTaskTree s q = IsKept s q.rows q.current q.quarters

-- tasks that were removed

unfoldable pub parked_parent : Store → ParkedTasks → Parents
parked_parent s p = parents_in (row s p.rows)

unfoldable pub parked_word : Store → ParkedTasks → Words
parked_word s p = words_in (row s p.rows)

unfoldable pub parked_owned : Store → ParkedTasks → List ℕ
parked_owned s p = RowTable.owned s p.rows

unfoldable pub IsParkedTasks : Store → ParkedTasks → Type 0
IsParkedTasks s p = AreParked s p.rows
