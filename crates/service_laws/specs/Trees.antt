-- The tree of tasks: which tasks are below a task, and how far below.
-- Assembler Services Guide, "Virtual storage management", "Subpool handling".
use Rattle.std.specs.Prelude.{◌≡◌, ◌↔◌, ℕ, zero, suc, ◌≤◌, true, Some}
use Rattle.vsm_model.specs.State.{State, is_task}
use Rattle.vsm_model.specs.Ending.{is_in_subtree}
use Rattle.vsm_model.specs.WellFormed.{TasksAreSound}

-- The task is that many steps below another: each step goes from a task to its parent.
abbrev pub IsStepsBelow : State → ℕ → ℕ → ℕ → Type 0
IsStepsBelow s zero top task = task ≡ top
IsStepsBelow s (suc steps) top task = (parent : ℕ) × (s.parents task ≡ Some parent) × IsStepsBelow s steps top parent

-- The task is the other one, or below it by any number of steps.
abbrev pub IsInSubtree : State → ℕ → ℕ → Type 0
IsInSubtree s top task = (steps : ℕ) × IsStepsBelow s steps top task

-- In a well-formed state the subtree of a task, which is looked for by 64 steps, has exactly the tasks that are below
-- it by any number of steps, and the task itself.
abbrev pub SubtreeIsWhole : Type 0
SubtreeIsWhole =
    (s : State) → TasksAreSound s → (top task : ℕ) → is_task s top ≡ true →
    (is_in_subtree s top task ≡ true) ↔ IsInSubtree s top task

-- No task is more than 63 steps below task 1: the tasks on the way are distinct, and there are at most 64.
abbrev pub NoneIsDeeper : Type 0
NoneIsDeeper = (s : State) → TasksAreSound s → (steps task : ℕ) → IsStepsBelow s steps 1 task → steps ≤ 63
