use Rattle.std.proofs.Common.{◌≡◌, ℕ, ◌<◌, length}
use Rattle.std.specs.Prelude.{slice_index_or}
use Rattle.storage_swap.specs.Storage.{state_of}
use Rattle.task_plans.specs.Parents.{present}
use Rattle.task_plans.proofs.ended.read_parents.Given as goal

abbrev pub invariant-loop-task : goal.invariant-loop-task
invariant-loop-task l = record {
  length : length l.of ≡ 65;
  done : (t : ℕ) → t < l.task → (state_of l.storage).tasks.parents t ≡ present (slice_index_or l.of t 255);
}
