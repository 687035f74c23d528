use Rattle.std.proofs.Common.{arith}
use Rattle.explain_standing.proofs.TaskEnds.{task_low}
use Rattle.explain_standing.proofs.askers.has_task.Goals as goal

pub returns-in-Err : goal.returns-in-Err
returns-in-Err c = task_low c.args.storage.now c.args.task (omega arith)
