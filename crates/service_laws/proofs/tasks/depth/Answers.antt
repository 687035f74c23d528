use Rattle.service_laws.proofs.Depth.{none_is_deeper}
use Rattle.service_laws.proofs.tasks.depth.Goals as goal

pub returns : goal.returns
returns c = none_is_deeper
