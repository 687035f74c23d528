use Rattle.task_plans.proofs.EndedWalks.{QuartersLead}
use Rattle.task_plans.proofs.ended.push_ended_task.Given as goal

abbrev pub invariant-loop-quarter : goal.invariant-loop-quarter
invariant-loop-quarter l = QuartersLead l.task l.quarter l.fn.storage l.fn.builder l.storage l.builder
