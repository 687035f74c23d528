use Rattle.std.proofs.Common.{◌∙◌}
use Rattle.explain_reasons.specs.Tasks.{parent_text}
use Rattle.explain_text.proofs.Alike.{alike}
use Rattle.explain_reasons.proofs.tasks.put_parent.Goals as goal

pub returns : goal.returns
returns g c =
    let current = c.from-current.ensures ∙ c.current.ensures in
    alike _ _ _ _ _ _ (λ i. parent_text c.args.task (c.parent_of.ensures i) (current i)) c.put_its_parent.ensures
