use Rattle.task_tree.proofs.LawLemmas.{trees_kept}
use Rattle.task_tree.proofs.laws.trees_kept.Goals as goal

pub returns : goal.returns
returns c = trees_kept
