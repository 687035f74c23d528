use Rattle.task_tree.proofs.LawLemmas.{a_parent_is_not_below_its_subtask}
use Rattle.task_tree.proofs.laws.a_parent_is_not_below_its_subtask.Goals as goal

pub returns : goal.returns
returns c = a_parent_is_not_below_its_subtask
