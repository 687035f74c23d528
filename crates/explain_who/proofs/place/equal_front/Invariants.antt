use Rattle.std.proofs.Common.{◌≡◌, ◌+◌, drop}
use Rattle.explain_who.specs.Place.{equal_front}
use Rattle.explain_who.proofs.place.equal_front.Given as goal

abbrev pub invariant-loop-i : goal.invariant-loop-i
invariant-loop-i l = l.i + equal_front (drop l.i l.a) (drop l.i l.b) ≡ equal_front l.a l.b
