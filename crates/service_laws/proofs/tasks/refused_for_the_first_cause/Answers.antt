use Rattle.service_laws.proofs.TaskRefused.{attach_is_refused_for_the_first, detach_is_refused_for_the_first, end_task_is_refused_for_the_first, run_is_refused_for_the_first}
use Rattle.service_laws.proofs.tasks.refused_for_the_first_cause.Goals as goal

pub returns-clause-attach : goal.returns-clause-attach
returns-clause-attach c = attach_is_refused_for_the_first

pub returns-clause-detach : goal.returns-clause-detach
returns-clause-detach c = detach_is_refused_for_the_first

pub returns-clause-end_task : goal.returns-clause-end_task
returns-clause-end_task c = end_task_is_refused_for_the_first

pub returns-clause-run : goal.returns-clause-run
returns-clause-run c = run_is_refused_for_the_first
