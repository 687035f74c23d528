use Rattle.std.proofs.Common.{◌≡◌, take}
use Rattle.explain_areas.specs.RowTexts.{sum_of}
use Rattle.explain_areas.proofs.sums.sum_of.Given as goal

abbrev pub invariant-loop-row : goal.invariant-loop-row
invariant-loop-row l = l.sum ≡ sum_of (take l.row-index l.rows)
