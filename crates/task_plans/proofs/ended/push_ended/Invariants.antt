use Rattle.task_plans.proofs.EndedWalks.{LevelsLead}
use Rattle.task_plans.proofs.ended.push_ended.Given as goal

abbrev pub invariant-loop-done : goal.invariant-loop-done
invariant-loop-done l = LevelsLead l.tree.top l.levels l.done l.fn.storage l.fn.builder l.storage l.builder
