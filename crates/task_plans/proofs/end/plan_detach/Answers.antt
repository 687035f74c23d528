use Rattle.storage_swap.specs.Storage.{state_of}
use Rattle.task_plans.proofs.EndPlans.{detach_planned}
use Rattle.task_plans.proofs.end.plan_detach.Goals as goal

pub returns-in-Ok : goal.returns-in-Ok
returns-in-Ok c = λ settings names_full valid stands.
    let p = c.args.storage.now in
    detach_planned settings names_full (state_of p) c.ends_are_in_order.ensures c.ending_leads.ensures
    (c.cell_pools_are_named.ensures p.elements p.subpools c.requires.stands.subpools) c.args.task c.current-current.result
    c.current-current.ensures c.in-Ok.ensures.ok valid stands.sound
