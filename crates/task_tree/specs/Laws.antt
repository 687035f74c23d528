-- Laws of trees of tasks.
use Rattle.std.specs.Prelude.{◌≡◌, ◌≢◌, ℕ, ◌<◌, ◌≤◌, ◌⊎◌, true, List, Some, None, IsSome, is_some, if◌then◌else◌}
use Rattle.row_table.specs.Rows.{either_of}
use Rattle.task_tree.specs.Tasks.{Parents, Words, IsBelow, IsTaken, IsLeft}
use Rattle.vsm_elements.specs.Store.{Store, at, among}
use Rattle.vsm_elements.specs.Ownership.{Owns, Leaves, Apart}
use Rattle.task_tree.specs.declared.tree.TaskTree.{TaskTree}
use Rattle.task_tree.specs.declared.parked.ParkedTasks.{ParkedTasks}
use Rattle.task_tree.specs.TaskTree.{parent, word, current, owned, IsTaskTree, parked_parent, parked_word}
use Rattle.task_tree.specs.TaskTree.{parked_owned, IsParkedTasks}

-- a tree owns its elements; tasks are from 1 to 64, task 1 is the root, each other has a parent that exists, and the
-- current task exists
abbrev pub TreesStand : Type 0
TreesStand = (s : Store) (q : TaskTree) → IsTaskTree s q
    → Owns s (owned s q)
    × ((t : ℕ) → IsSome (parent s q t) → (1 ≤ t) × (t ≤ 64))
    × (parent s q 1 ≡ Some 0) × ((t p : ℕ) → parent s q t ≡ Some p → t ≢ 1 → IsSome (parent s q p))
    × IsSome (parent s q (current q))

-- task 1 is below no other task
abbrev pub RootIsAbove : Type 0
RootIsAbove = (s : Store) (q : TaskTree) (top : ℕ) → IsTaskTree s q → IsSome (parent s q top) → top ≢ 1
    → ¬ IsBelow (parent s q) top 1

-- a task is not below what is below it: neither is its parent, nor any task above that
abbrev pub AParentIsNotBelowItsSubtask : Type 0
AParentIsNotBelowItsSubtask = (s : Store) (q : TaskTree) (task under : ℕ) → IsTaskTree s q
    → parent s q task ≡ Some under
    → ¬ IsBelow (parent s q) task under
    × ((above : ℕ) → IsBelow (parent s q) above under → ¬ IsBelow (parent s q) task above)

-- each task that exists is below task 1: its way up ends there
abbrev pub EachTaskIsBelowTheFirst : Type 0
EachTaskIsBelowTheFirst = (s : Store) (q : TaskTree) (task : ℕ) → IsTaskTree s q → IsSome (parent s q task)
    → IsBelow (parent s q) 1 task

-- what was removed can be put back with what was left, which gives what was there before
abbrev pub PutBack : Type 0
PutBack = (f rest out : Parents) (words rest_words out_words : Words) (top : ℕ)
    → IsSome (f top) → ¬ IsBelow f top 1 → ((t p : ℕ) → f t ≡ Some p → t ≢ 1 → IsSome (f p))
    → ((t : ℕ) → IsTaken f rest out words out_words top t ⊎ IsLeft f rest out words rest_words top t)
    → ((t : ℕ) → IsSome (out t) → rest t ≡ None)
    × ((t p : ℕ) → out t ≡ Some p → IsSome (either_of (out p) (rest p)))
    × ((t : ℕ) → either_of (out t) (rest t) ≡ f t)
    × ((t r : ℕ) → r < 16 → (if is_some (out t) then out_words t r else rest_words t r) ≡ words t r)

-- a tree whose elements are unchanged is unchanged
abbrev pub TreesKept : Type 0
TreesKept = (s t : Store) (q : TaskTree) → IsTaskTree s q
    → ((id : ℕ) → among id (owned s q) ≡ true → at t id ≡ at s id)
    → IsTaskTree t q × ((task : ℕ) → parent t q task ≡ parent s q task)
    × ((task r : ℕ) → word t q task r ≡ word s q task r) × (owned t q ≡ owned s q)

-- and so are parked tasks
abbrev pub ParkedKept : Type 0
ParkedKept = (s t : Store) (p : ParkedTasks) → IsParkedTasks s p
    → ((id : ℕ) → among id (parked_owned s p) ≡ true → at t id ≡ at s id)
    → IsParkedTasks t p × ((task : ℕ) → parked_parent t p task ≡ parked_parent s p task)
    × ((task r : ℕ) → parked_word t p task r ≡ parked_word s p task r) × (parked_owned t p ≡ parked_owned s p)

-- a tree that is apart from what a call owns is unchanged
abbrev pub TreesStay : Type 0
TreesStay = (s t : Store) (had has : List ℕ) (q : TaskTree) → Leaves s t had has → IsTaskTree s q
    → Apart had (owned s q)
    → IsTaskTree t q × ((task : ℕ) → parent t q task ≡ parent s q task)
    × ((task r : ℕ) → word t q task r ≡ word s q task r) × (owned t q ≡ owned s q)

-- and so are parked tasks
abbrev pub ParkedStay : Type 0
ParkedStay = (s t : Store) (had has : List ℕ) (p : ParkedTasks) → Leaves s t had has → IsParkedTasks s p
    → Apart had (parked_owned s p)
    → IsParkedTasks t p × ((task : ℕ) → parked_parent t p task ≡ parked_parent s p task)
    × ((task r : ℕ) → parked_word t p task r ≡ parked_word s p task r) × (parked_owned t p ≡ parked_owned s p)
