use Rattle.std.proofs.Common.{◌∙◌}
use Rattle.std.specs.Prelude.{codes, decimal, ◌∷◌, []}
use Rattle.explain_text.specs.Pieces.{line}
use Rattle.explain_text.proofs.Alike.{alike}
use Rattle.explain_reasons.proofs.tasks.put_subtask.Goals as goal

pub returns : goal.returns
returns g c =
    let current = c.from.ensures ∙ c.current.ensures in
    alike _ _ _ _ _ _
    (λ i. line (codes "task " ∷ decimal (current i) ∷ codes " has a subtask: task " ∷ decimal (c.first_subtask.ensures i) ∷ [])) c.put_line.ensures.text
