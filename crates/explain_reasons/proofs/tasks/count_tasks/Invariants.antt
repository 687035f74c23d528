use Rattle.std.proofs.Common.{◌≡◌, ◌+◌, ◌-◌, ◌<◌}
use Rattle.storage_core.specs.Meaning.{state_of}
use Rattle.vsm_model.specs.Search.{passing}
use Rattle.vsm_model.specs.State.{is_task}
use Rattle.explain_reasons.specs.Tasks.{task_count}
use Rattle.explain_reasons.proofs.tasks.count_tasks.Given as goal

abbrev pub invariant-loop-task : goal.invariant-loop-task
invariant-loop-task l =
    record {
      counted : l.count + passing (is_task (state_of l.storage)) l.task (65 - l.task) ≡ task_count (state_of l.storage);
      few : l.count < l.task;
    }
