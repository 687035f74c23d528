use Rattle.service_laws.proofs.IsAttached.{attach_makes_a_task}
use Rattle.service_laws.proofs.tasks.attached.Goals as goal

pub returns : goal.returns
returns c = attach_makes_a_task
