use Rattle.task_tree.proofs.BackLemmas.{put_back}
use Rattle.task_tree.proofs.laws.put_back.Goals as goal

pub returns : goal.returns
returns c = put_back
