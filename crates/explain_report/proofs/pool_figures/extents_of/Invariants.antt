use Rattle.std.proofs.Common.{◌≤◌, length}
use Rattle.std.specs.Prelude.{IfSome}
use Rattle.storage_map.specs.Cells.{cell_pool, IsExtentPlace, extents_left}
use Rattle.explain_report.proofs.ExtentSums.{Remain}
use Rattle.explain_report.proofs.pool_figures.extents_of.Given as goal

abbrev pub invariant-loop-extent : goal.invariant-loop-extent
invariant-loop-extent l =
    record {
      place : IsExtentPlace l.storage l.place;
      left : IfSome (cell_pool l.storage l.fn.id) (λ p. Remain l.fn.size l.figures (extents_left l.storage l.place) p.extents);
      small : (l.figures.extents ≤ 18446744073709551615) × (l.figures.bytes ≤ 18446744073709551615) × (l.figures.cells ≤ 18446744073709551615);
    }

abbrev pub decreases-loop-extent : goal.decreases-loop-extent
decreases-loop-extent l = length (extents_left l.storage l.place)
