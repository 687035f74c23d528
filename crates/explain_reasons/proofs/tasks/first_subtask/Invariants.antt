use Rattle.std.proofs.Common.{◌≡◌, ℕ, ◌<◌, ◌≤◌, false}
use Rattle.storage_core.specs.Meaning.{state_of}
use Rattle.vsm_model.specs.Ending.{is_child}
use Rattle.explain_reasons.proofs.tasks.first_subtask.Given as goal

abbrev pub invariant-loop-task : goal.invariant-loop-task
invariant-loop-task l = (k : ℕ) → 1 ≤ k → k < l.task → is_child (state_of l.storage) (state_of l.storage).current k ≡ false
