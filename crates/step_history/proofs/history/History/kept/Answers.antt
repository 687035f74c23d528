use Rattle.std.proofs.Common.{length, ap, arith}
use Rattle.std.proofs.lemmas.List.{length-take-le}
use Rattle.step_history.proofs.history.History.kept.Goals as goal

pub returns-clause-kept : goal.returns-clause-kept
returns-clause-kept g c = omega (arith, ap (λ h. length h.kept) c.self.view_is, length-take-le c.self.inside.kept c.self.inside.changes.items c.self.invariant.kept_held)
