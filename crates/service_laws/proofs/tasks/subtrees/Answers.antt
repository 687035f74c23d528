use Rattle.service_laws.proofs.Below.{subtree_is_whole}
use Rattle.service_laws.proofs.tasks.subtrees.Goals as goal

pub returns : goal.returns
returns c = subtree_is_whole
