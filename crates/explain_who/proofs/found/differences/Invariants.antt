use Rattle.std.proofs.Common.{◌≡◌, None, map, drop, ◌++◌}
use Rattle.explain_who.specs.Who.{differences_of}
use Rattle.explain_who.specs.Code.{difference_in}
use Rattle.explain_who.proofs.found.differences.Given as goal

abbrev pub invariant-loop-i : goal.invariant-loop-i
invariant-loop-i l =
    map difference_in l.found.items ++ differences_of l.taken_before l.before (drop l.i l.entries) ≡ differences_of None l.first l.entries
