use Rattle.std.specs.Prelude.{codes, decimal, ◌∷◌, []}
use Rattle.explain_text.specs.Pieces.{line}
use Rattle.explain_text.proofs.Alike.{alike}
use Rattle.explain_reasons.proofs.tasks.put_task_count.Goals as goal

pub returns : goal.returns
returns g c = alike _ _ _ _ _ _ (λ i. line (decimal (c.count_tasks.ensures i) ∷ codes " of 64 tasks exist" ∷ [])) c.put_line.ensures.text
