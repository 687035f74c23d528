use Rattle.std.proofs.Common.{◌≡◌, ◌∙◌, arith}
use Rattle.explain_who.proofs.Fronts.{none_from}
use Rattle.explain_who.proofs.place.equal_front.Goals as goal

pub returns : goal.returns
returns c =
    let at : c.loop-i.i ≡ c.min-end.result = omega (arith, c.loop-i-test.false, c.loop-i.auto.i-end) in
    let none = none_from c.args.a.now c.args.b.now c.loop-i.i (at ∙ c.min-end.ensures) in
    omega (arith, at, none, c.loop-i.invariant)
