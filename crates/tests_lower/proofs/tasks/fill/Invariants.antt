use Rattle.task_tree.specs.TaskTree.{IsTaskTree}
use Rattle.tests_lower.proofs.tasks.fill.Given as goal

abbrev pub invariant-loop-r : goal.invariant-loop-r
invariant-loop-r g l = IsTaskTree l.elements l.tree
