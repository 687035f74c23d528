use Rattle.std.proofs.Common.{◌≡◌, length}
use Rattle.std.specs.Prelude.{IfSome}
use Rattle.storage_map.specs.Cells.{cell_pool, IsCellPlace, cells_left}
use Rattle.vsm_model.specs.Search.{is_in}
use Rattle.explain_reasons.proofs.pools.is_free_cell.Given as goal

abbrev pub invariant-loop-free : goal.invariant-loop-free
invariant-loop-free l =
    record {
      place : IsCellPlace l.storage l.place;
      left : IfSome (cell_pool l.storage l.id) (λ p. is_in (cells_left l.storage l.place) l.cell ≡ is_in p.cells l.cell);
    }

abbrev pub decreases-loop-free : goal.decreases-loop-free
decreases-loop-free l = length (cells_left l.storage l.place)
