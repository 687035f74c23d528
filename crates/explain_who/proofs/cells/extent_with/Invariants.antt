use Rattle.std.proofs.Common.{◌≡◌, length}
use Rattle.std.specs.Prelude.{IfSome}
use Rattle.storage_map.specs.Cells.{cell_pool, IsExtentPlace, extents_left}
use Rattle.explain_who.proofs.CellPools.{first_of}
use Rattle.explain_who.proofs.cells.extent_with.Given as goal

abbrev pub invariant-loop-extent : goal.invariant-loop-extent
invariant-loop-extent l =
    record {
      place : IsExtentPlace l.storage l.place;
      left : IfSome (cell_pool l.storage l.fn.id) (λ p. first_of l.size l.address (extents_left l.storage l.place) ≡ first_of l.size l.address p.extents);
    }

abbrev pub decreases-loop-extent : goal.decreases-loop-extent
decreases-loop-extent l = length (extents_left l.storage l.place)
