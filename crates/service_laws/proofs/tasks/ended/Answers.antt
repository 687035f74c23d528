use Rattle.service_laws.proofs.Ended.{the_ended_leave_nothing, the_others_keep_their_pages}
use Rattle.service_laws.proofs.Gone.{detach_ends_the_subtree, end_task_ends_the_current_task}
use Rattle.service_laws.proofs.tasks.ended.Goals as goal

pub returns-clause-detach : goal.returns-clause-detach
returns-clause-detach c = detach_ends_the_subtree

pub returns-clause-end_task : goal.returns-clause-end_task
returns-clause-end_task c = end_task_ends_the_current_task

pub returns-clause-nothing : goal.returns-clause-nothing
returns-clause-nothing c = the_ended_leave_nothing

pub returns-clause-others : goal.returns-clause-others
returns-clause-others c = the_others_keep_their_pages
