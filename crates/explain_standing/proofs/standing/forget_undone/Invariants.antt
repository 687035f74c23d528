use Rattle.std.proofs.Common.{◌≡◌}
use Rattle.explain_standing.specs.Standings.{fallen, readings_in}
use Rattle.explain_standing.proofs.standing.forget_undone.Given as goal

abbrev pub invariant-loop-readings : goal.invariant-loop-readings
invariant-loop-readings l = fallen l.standing (readings_in l.readings.items) ≡ fallen l.standing (readings_in l.initial.readings.items)

abbrev pub decreases-loop-readings : goal.decreases-loop-readings
decreases-loop-readings l = goal.left-loop-readings l
