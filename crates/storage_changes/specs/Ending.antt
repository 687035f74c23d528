-- The records of tasks that end. Assembler Services Reference, DETACH; Assembler Services Guide, "Virtual storage
-- management", "Subpool handling": when a task ends, the subpools that it owns are released.
use Rattle.std.specs.Prelude.{◌≡◌, ℕ, zero, suc, ◌+◌, ◌*◌, Bool, true, false, ◌==◌, if◌then◌else◌}
use Rattle.std.specs.Prelude.{Option, Some, option_map, unwrap_or}
use Rattle.std.specs.Prelude.{List, [], ◌∷◌, ◌++◌, length, map, filter}
use Rattle.std.specs.List.{flat_map, filter_map, range_with_len}
use Rattle.vsm_model.specs.declared.Subpool.{Subpool}
use Rattle.vsm_model.specs.Search.{holds, is_in}
use Rattle.vsm_model.specs.State.{State, is_task}
use Rattle.subpool_set.specs.Pools.{sharers, tasks, numbers}
use Rattle.subpool_storage.specs.Extents.{extents}
use Rattle.subpool_storage.specs.Subpools.{Subpools}
use Rattle.storage_changes.specs.declared.record.Record.{Record}
use Rattle.storage_changes.specs.declared.record.Record.TheVariants.{Own, Queues, Registers, Task, Turn, Sharer}
use Rattle.storage_changes.specs.Changes.{unassigned_records}
use Rattle.storage_changes.specs.State.{StorageState}

-- The task is exactly this many steps below another: each step goes from a task to its parent.
abbrev pub is_below_by : (ℕ → Option ℕ) → ℕ → ℕ → ℕ → Bool
is_below_by parents top zero task = task == top
is_below_by parents top (suc steps) task = holds (is_below_by parents top steps) (parents task)

-- the tasks that are this many steps below another
abbrev pub ended_level : (ℕ → Option ℕ) → ℕ → ℕ → List ℕ
ended_level parents top steps = filter (is_below_by parents top steps) (range_with_len 1 64)

-- The tasks up to this many steps below another, those furthest below it first.
abbrev pub ended_from : (ℕ → Option ℕ) → ℕ → ℕ → List ℕ
ended_from parents top zero = ended_level parents top 0
ended_from parents top (suc steps) = ended_level parents top (suc steps) ++ ended_from parents top steps

-- The subtree of a task: none of the 64 tasks is more than 63 steps below another. Closed, since it is long.
unfoldable pub ended_below : (ℕ → Option ℕ) → ℕ → List ℕ
ended_below parents top = ended_from parents top 63

-- a row of sight: a subpool, and a task that sees it
abbrev pub SightRow : Type 0
SightRow = Subpool × ℕ

-- the row of a number and a task, if the task sees a subpool there
abbrev pub row_at : Subpools → ℕ → ℕ → Option SightRow
row_at m number task = option_map (λ owner. (record { number = number; owner = owner }, task)) (m.sight task number)

-- the rows of these tasks at a number
abbrev pub rows_at : Subpools → List ℕ → ℕ → List SightRow
rows_at m those number = filter_map (row_at m number) those

-- the tasks that end, in ascending order
abbrev pub ending_tasks : List ℕ → List ℕ
ending_tasks ended = filter (is_in ended) tasks

-- what these tasks see, by number and then by task
abbrev pub seen_by_these : Subpools → List ℕ → List SightRow
seen_by_these m ended = flat_map (rows_at m (ending_tasks ended)) numbers

-- whether the task owns what it sees
abbrev pub is_own : SightRow → Bool
is_own row = row.0.owner == row.1

-- the subpools of rows that are owners' own
abbrev pub owned_in : List SightRow → List Subpool
owned_in rows = map (λ row. row.0) (filter is_own rows)

-- the subpools that these tasks own
abbrev pub owned_by_these : Subpools → List ℕ → List Subpool
owned_by_these m ended = owned_in (seen_by_these m ended)

-- The storage of a subpool moves into the change, and its pages become unassigned.
abbrev pub emptying_records : Subpools → Subpool → List Record
emptying_records m p = Queues (record { subpool = p }) ∷ unassigned_records (extents m p)

abbrev pub released_records : Subpools → List ℕ → List Record
released_records m ended = flat_map (emptying_records m) (owned_by_these m ended)

-- the rows of the tasks that share a subpool
abbrev pub sharer_rows : Subpools → Subpool → List SightRow
sharer_rows m p = map (λ task. (p, task)) (sharers m.sight p.number p.owner)

-- The rows that are removed with one of a task that ends. An owner's own takes along those of all tasks that share its
-- subpool; a row of another's subpool is removed by itself if its owner stays, and otherwise with the owner's.
abbrev pub rows_with : Subpools → List ℕ → SightRow → List SightRow
rows_with m ended row =
    if is_own row then sharer_rows m row.0 else if is_in ended row.0.owner then [] else row ∷ []

-- the rows that are removed except those of owners: none of their tasks sees the subpool any longer
abbrev pub rows_unseen : Subpools → List ℕ → List SightRow
rows_unseen m ended = flat_map (rows_with m ended) (seen_by_these m ended)

abbrev pub unshared : SightRow → Record
unshared row = Sharer (record { subpool = row.0; task = row.1; present = false })

abbrev pub unshared_records : Subpools → List ℕ → List Record
unshared_records m ended = map unshared (rows_unseen m ended)

-- the subpools, which are empty by then and which only their owners see, are gone
abbrev pub removed : Subpool → Record
removed p = Own (record { subpool = p; present = false })

abbrev pub removed_records : Subpools → List ℕ → List Record
removed_records m ended = map removed (owned_by_these m ended)

-- a quarter of a task's registers become zeros
abbrev pub cleared_quarter : ℕ → ℕ → Record
cleared_quarter task quarter = Registers (record { task = task; first = 4 * quarter; words = 0 ∷ 0 ∷ 0 ∷ 0 ∷ [] })

-- a task's registers become zeros, and it is gone
abbrev pub ended_records : StorageState → ℕ → List Record
ended_records m task =
    map (cleared_quarter task) (range_with_len 0 4)
    ++ Task (record { task = task; parent = unwrap_or (m.tasks.parents task) 0; present = false })
    ∷ []

-- The tasks end, in their order, and it's this task's turn.
abbrev pub end_records : StorageState → List ℕ → ℕ → List Record
end_records m ended next =
    released_records m.subpools ended
    ++ Turn (record { task = next })
    ∷ unshared_records m.subpools ended
    ++ removed_records m.subpools ended
    ++ flat_map (ended_records m) ended

-- the storage at the task's turn
abbrev pub with_turn : StorageState → ℕ → StorageState
with_turn m next = record m { tasks = record m.tasks { current = next } }

-- the blank elements
abbrev pub end_blanks : StorageState → List ℕ → ℕ
end_blanks m ended = 1 + length (released_records m.subpools ended)

-- the number of extents that their subpools have,
abbrev pub extents_ended : Subpools → List ℕ → ℕ
extents_ended m ended = length (flat_map (extents m) (owned_by_these m ended))

-- and the number of rows of sight that are removed except those of owners
abbrev pub sights_ended : Subpools → List ℕ → ℕ
sights_ended m ended = length (rows_unseen m ended)

-- what leaves: the tasks, their subpools, the extents of these, and rows of sight
abbrev pub weight_ended : Subpools → List ℕ → ℕ
weight_ended m ended =
    length ended + length (owned_by_these m ended) + extents_ended m ended + sights_ended m ended

-- each task occurs only once, after all those whose parent it is
abbrev pub AreSubtasksFirst : (ℕ → Option ℕ) → List ℕ → List ℕ → Type 0
AreSubtasksFirst parents gone [] = Unit {0}
AreSubtasksFirst parents gone (task ∷ tasks) =
    (is_in gone task ≡ false)
    × ((subtask : ℕ) → parents subtask ≡ Some task → is_in gone subtask ≡ true)
    × AreSubtasksFirst parents (task ∷ gone) tasks

-- These tasks can end in this order, and then it's the turn of one that doesn't.
pub record CanEnd (s : State) (ended : List ℕ) (next : ℕ) : Type 0 where
  pub order : AreSubtasksFirst s.parents [] ended
  pub tasks : (task : ℕ) → is_in ended task ≡ true → is_task s task ≡ true
  pub later : is_in ended 1 ≡ false
  pub turn : is_task s next ≡ true
  pub stays : is_in ended next ≡ false
