use Rattle.std.proofs.Common.{flat_map}
use Rattle.storage_core.specs.Meaning.{state_of}
use Rattle.vsm_model.specs.Map.{numbers, task_lines}
use Rattle.storage_map.proofs.Remaining.{Remains}
use Rattle.storage_map.proofs.tasks.put_tasks.Given as goal

abbrev pub invariant-loop-task : goal.invariant-loop-task
invariant-loop-task g l =
    Remains (g.W.Write.contents l.fn.writer) (g.W.Write.contents l.writer) l.fn.gathered l.gathered
    (flat_map (task_lines (state_of l.storage)) (numbers 1 65)) (flat_map (task_lines (state_of l.storage)) (numbers l.task 65))
