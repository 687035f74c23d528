use Rattle.std.proofs.Common.{length, ap, arith}
use Rattle.std.proofs.lemmas.List.{length-drop}
use Rattle.step_history.proofs.history.History.undone.Goals as goal

pub returns-clause-undone : goal.returns-clause-undone
returns-clause-undone g c = omega (arith, ap (λ h. length h.undone) c.self.view_is, length-drop c.self.inside.kept c.self.inside.changes.items, c.len.ensures)
