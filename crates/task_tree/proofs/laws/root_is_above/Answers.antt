use Rattle.task_tree.proofs.BackLemmas.{root_is_above}
use Rattle.task_tree.proofs.laws.root_is_above.Goals as goal

pub returns : goal.returns
returns c = root_is_above
