use Rattle.service_laws.proofs.Attaches.{attach_leaves_well_formed}
use Rattle.service_laws.proofs.TaskStays.{detach_leaves_well_formed, end_task_leaves_well_formed, run_leaves_well_formed}
use Rattle.service_laws.proofs.tasks.stays_well_formed.Goals as goal

pub returns-clause-detach : goal.returns-clause-detach
returns-clause-detach c = detach_leaves_well_formed

pub returns-clause-end_task : goal.returns-clause-end_task
returns-clause-end_task c = end_task_leaves_well_formed

pub returns-clause-run : goal.returns-clause-run
returns-clause-run c = run_leaves_well_formed

pub returns-clause-attach : goal.returns-clause-attach
returns-clause-attach c = attach_leaves_well_formed
