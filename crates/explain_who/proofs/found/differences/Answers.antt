use Rattle.std.proofs.Common.{None, ◌++◌, map, ap}
use Rattle.explain_who.specs.Who.{differences_of}
use Rattle.explain_who.specs.Code.{difference_in}
use Rattle.explain_who.proofs.found.differences.Goals as goal

pub loop-i-init : goal.loop-i-init
loop-i-init c = ap (λ xs. map difference_in xs ++ differences_of None c.args.first.now c.args.entries.now) c.new-found.ensures.items
