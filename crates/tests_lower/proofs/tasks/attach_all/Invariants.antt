use Rattle.task_tree.specs.TaskTree.{IsTaskTree}
use Rattle.tests_lower.proofs.tasks.attach_all.Given as goal

abbrev pub invariant-loop-task : goal.invariant-loop-task
invariant-loop-task g l = IsTaskTree l.elements l.tree
