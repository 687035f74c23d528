use Rattle.std.proofs.Common.{◌≡◌, arith}
use Rattle.vsm_elements.proofs.chain.Chain.discard.Goals as goal

pub returns-clause-owned : goal.returns-clause-owned
returns-clause-owned c =
    let none : c.loop-rest.rest.count ≡ 0 = omega (arith, c.loop-rest-test.false) in
    rw none at c.loop-rest.invariant.owned

pub returns-clause-spares : goal.returns-clause-spares
returns-clause-spares c = omega (arith, c.loop-rest.invariant.spares, c.loop-rest-test.false)
