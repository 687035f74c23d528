-- Trees of tasks as functions: the parent of each task that exists, and the words of its registers.
use Rattle.std.specs.Prelude.{◌≡◌, ℕ, ◌<◌, ◌≤◌, Bool, true, Option, Some, None, IsSome, List, is_some, filter, ◌==◌}
use Rattle.std.specs.Prelude.{if◌then◌else◌}
use Rattle.std.specs.List.{range_with_len}

-- the parent of each task: 0 for the first, which has none
abbrev pub Parents : Type 0
Parents = ℕ → Option ℕ

-- the word of each register of each task
abbrev pub Words : Type 0
Words = ℕ → ℕ → ℕ

-- The task is `top` or below it: it is in every set that has `top` and, with a task, its subtasks.
abbrev pub IsBelow : Parents → ℕ → ℕ → Type 0
IsBelow f top task = (set : ℕ → Bool) → set top ≡ true
    → ((child parent : ℕ) → f child ≡ Some parent → set parent ≡ true → set child ≡ true) → set task ≡ true

-- one task has this parent, and all others have theirs
abbrev pub parents_with : Parents → ℕ → ℕ → Parents
parents_with f task parent t = if t == task then Some parent else f t

-- this is the least number from 1 to 64 that no task has
pub record IsLeastFree (f : Parents) (number : ℕ) : Type 0 where
  pub low : 1 ≤ number
  pub high : number ≤ 64
  pub free : f number ≡ None
  pub least : (t : ℕ) → 1 ≤ t → t < number → IsSome (f t)

-- a task that was moved from f to out: rest is what was left
pub record IsTaken (f rest out : Parents) (words out_words : Words) (top task : ℕ) : Type 0 where
  pub below : IsBelow f top task
  pub gone : rest task ≡ None
  pub parent : out task ≡ f task
  pub registers : (r : ℕ) → r < 16 → out_words task r ≡ words task r

-- a task that was left
pub record IsLeft (f rest out : Parents) (words rest_words : Words) (top task : ℕ) : Type 0 where
  pub beside : ¬ IsBelow f top task
  pub none : out task ≡ None
  pub parent : rest task ≡ f task
  pub registers : (r : ℕ) → r < 16 → rest_words task r ≡ words task r

-- all tasks: closed, since they are long
unfoldable pub tasks : List ℕ
tasks = range_with_len 1 64

-- the tasks that exist, in ascending order
abbrev pub tasks_in : Parents → List ℕ
tasks_in f = filter (λ t. is_some (f t)) tasks

-- No task is below its own subtask: each has a depth, which is greater than its parent's.
abbrev pub HasDepths : Parents → Type 0
HasDepths f = (depth : ℕ → ℕ) × ((task parent : ℕ) → f task ≡ Some parent → depth parent < depth task)
