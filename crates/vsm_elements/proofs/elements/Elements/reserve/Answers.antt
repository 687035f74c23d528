use Rattle.std.proofs.Common.{ap, arith}
use Rattle.vsm_elements.proofs.elements.Elements.reserve.Goals as goal

pub returns-clause-ok : goal.returns-clause-ok
returns-clause-ok c = omega (arith, ap (λ s. s.spare) c.self.view_is, c.loop-self-test.false)
