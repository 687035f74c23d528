-- What the tasks of a subtree see, read from a place on: by number, and then by task. Assembler Services Guide,
-- "Virtual storage management", "Subpool handling".
use Rattle.std.specs.Prelude.{◌≡◌, ℕ, ◌+◌, ◌-◌, List, ◌++◌, drop}
use Rattle.std.specs.List.{flat_map, filter_map, range_with_len}
use Rattle.subpool_set.specs.Pools.{IsNumbersEnd}
use Rattle.storage_changes.specs.State.{StorageState}
use Rattle.storage_changes.specs.Ending.{SightRow, ended_below, ending_tasks, row_at, rows_at}
use Rattle.task_plans.specs.Parents.{AreParents}
use Rattle.task_plans.specs.declared.ended.EndOfTasks.{EndOfTasks}
use Rattle.task_plans.specs.declared.sights.SubpoolInSight.{SubpoolInSight}
use Rattle.task_plans.specs.declared.sights.SightPlace.{SightPlace}

-- the tasks that end
abbrev pub ended_by : StorageState → EndOfTasks → List ℕ
ended_by m ending = ended_below m.tasks.parents ending.tree.top

-- as a row of sight
abbrev pub row_of : SubpoolInSight → SightRow
row_of seen = (seen.subpool, seen.task)

-- the tasks of a subtree in ascending order
abbrev pub tasks_below : StorageState → ℕ → List ℕ
tasks_below m top = ending_tasks (ended_below m.tasks.parents top)

-- the rows of a place's number, of the tasks that weren't asked yet
abbrev pub rows_from : StorageState → ℕ → SightPlace → List SightRow
rows_from m top place = filter_map (row_at m.subpools place.number) (drop place.asked (tasks_below m top))

-- those of the numbers after this one
abbrev pub rows_behind : StorageState → ℕ → ℕ → List SightRow
rows_behind m top number =
    flat_map (rows_at m.subpools (tasks_below m top)) (range_with_len (number + 1) (128 - (number + 1)))

-- those from a place on
abbrev pub seen_left : StorageState → ℕ → SightPlace → List SightRow
seen_left m top place = rows_from m top place ++ rows_behind m top place.number

-- This is the storage's tree of tasks, those of the subtree in ascending order, and where the numbers end.
pub record IsEnding (m : StorageState) (ending : EndOfTasks) : Type 0 where
  pub parents : AreParents ending.tree.parents.of m.tasks.parents
  pub tasks : ending.tasks.items ≡ tasks_below m ending.tree.top
  pub numbers : IsNumbersEnd m.subpools.sight ending.numbers_end
