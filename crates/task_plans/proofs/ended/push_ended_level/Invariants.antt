use Rattle.task_plans.proofs.EndedWalks.{LevelLeads}
use Rattle.task_plans.proofs.ended.push_ended_level.Given as goal

abbrev pub invariant-loop-task : goal.invariant-loop-task
invariant-loop-task l = LevelLeads l.tree.top l.steps l.task l.fn.storage l.fn.builder l.storage l.builder
