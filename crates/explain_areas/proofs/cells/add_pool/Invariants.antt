use Rattle.std.proofs.Common.{All, length}
use Rattle.std.specs.Prelude.{IfSome, unwrap_or}
use Rattle.std.proofs.Common.{◌/◌}
use Rattle.storage_map.specs.Cells.{cell_pool, IsExtentPlace, extents_left}
use Rattle.explain_standing.specs.NumberMaps.{number_in}
use Rattle.explain_areas.proofs.CellWalks.{Ends, Remain}
use Rattle.explain_areas.proofs.cells.add_pool.Given as goal

abbrev pub invariant-loop-extent : goal.invariant-loop-extent
invariant-loop-extent l = record {
  place : IsExtentPlace l.storage l.place;
  ends : All (Ends l.pool.settings.size) (extents_left l.storage l.place);
  left : IfSome (cell_pool l.storage l.fn.id) (λ p.
      Remain (λ cell. unwrap_or (number_in l.fn.lines (cell / 4)) 0) l.fn.cells.items l.cells.items (extents_left l.storage l.place) p);
}

abbrev pub decreases-loop-extent : goal.decreases-loop-extent
decreases-loop-extent l = length (extents_left l.storage l.place)
