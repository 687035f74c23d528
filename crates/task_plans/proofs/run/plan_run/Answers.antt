use Rattle.storage_swap.specs.Storage.{state_of}
use Rattle.task_plans.proofs.RunPlans.{past_tasks, run_carried}
use Rattle.task_plans.proofs.run.plan_run.Goals as goal

pub returns-then-task-gt-LAST_TASK-clause-planned : goal.returns-then-task-gt-LAST_TASK-clause-planned
returns-then-task-gt-LAST_TASK-clause-planned c settings names_full stands =
    past_tasks settings names_full (state_of c.args.storage.now) c.args.task stands.sound c.if-task-gt-LAST_TASK.true

pub returns-in-Ok-clause-planned : goal.returns-in-Ok-clause-planned
returns-in-Ok-clause-planned c settings names_full stands =
    let plan = c.turn_to in
    run_carried settings names_full (state_of c.args.storage.now) c.args.task c.turning_leads.ensures c.in-Ok.ensures.ok stands.sound
    plan.result plan.ensures.emptied plan.ensures.records plan.ensures.blanks plan.ensures.fresh plan.ensures.reply
