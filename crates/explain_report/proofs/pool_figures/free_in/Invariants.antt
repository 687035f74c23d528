use Rattle.std.proofs.Common.{◌≤◌, length}
use Rattle.std.specs.Prelude.{IfSome}
use Rattle.storage_map.specs.Cells.{cell_pool, IsCellPlace, cells_left}
use Rattle.explain_report.proofs.ExtentSums.{CountRemains}
use Rattle.explain_report.proofs.pool_figures.free_in.Given as goal

abbrev pub invariant-loop-after : goal.invariant-loop-after
invariant-loop-after l =
    record {
      place : IsCellPlace l.storage l.place;
      left : IfSome (cell_pool l.storage l.fn.id) (λ p. CountRemains l.count (cells_left l.storage l.place) p.cells);
      small : l.count ≤ 18446744073709551615;
    }

abbrev pub decreases-loop-after : goal.decreases-loop-after
decreases-loop-after l = length (cells_left l.storage l.place)
