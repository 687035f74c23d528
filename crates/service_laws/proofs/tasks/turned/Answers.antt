use Rattle.service_laws.proofs.TaskStays.{run_turns_to_the_task}
use Rattle.service_laws.proofs.tasks.turned.Goals as goal

pub returns : goal.returns
returns c = run_turns_to_the_task
