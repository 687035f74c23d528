use Rattle.std.proofs.Common.{is_some, ap, ◌∙◌}
use Rattle.explain_report.proofs.tasks.has_task.Goals as goal

pub returns : goal.returns
returns c = c.is_some.ensures ∙ ap is_some (c.parent.ensures ∙ ap (λ x. x.parents c.args.task) c.storage.ensures.state)
