use Rattle.task_tree.proofs.LawLemmas.{each_task_is_below_the_first}
use Rattle.task_tree.proofs.laws.each_task_is_below_the_first.Goals as goal

pub returns : goal.returns
returns c = each_task_is_below_the_first
