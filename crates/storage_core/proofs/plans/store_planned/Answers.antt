use Rattle.storage_core.proofs.PlanCases.{store_ok, store_err}
use Rattle.storage_core.proofs.plans.store_planned.Goals as goal

pub returns-in-Ok : goal.returns-in-Ok
returns-in-Ok c = λ settings names_full m x h. store_ok settings names_full m x c.args.planned c.in-Ok.plan c.in-Ok.is h

pub returns-in-Err : goal.returns-in-Err
returns-in-Err c = λ settings names_full m x h. store_err settings names_full m x c.args.planned c.in-Err.cause c.in-Err.is h
