use Rattle.std.proofs.Common.{[], ◌∷◌, ◌++◌, ◌∙◌}
use Rattle.storage_changes.specs.declared.record.Record.TheVariants.{Turn}
use Rattle.task_plans.proofs.run.turn_to.Goals as goal

pub returns-clause-records : goal.returns-clause-records
returns-clause-records c =
    c.push.ensures.items ∙ (λ i. c.clear.ensures i ++ Turn (record { task = c.args.task }) ∷ [])
