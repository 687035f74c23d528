use Rattle.task_tree.proofs.LawLemmas.{parked_kept}
use Rattle.task_tree.proofs.laws.parked_kept.Goals as goal

pub returns : goal.returns
returns c = parked_kept
