use Rattle.std.proofs.Common.{◌≡◌, ◌*◌, length}
use Rattle.std.specs.Prelude.{IfSome}
use Rattle.vsm_model.specs.Regions.{doublewords}
use Rattle.storage_map.specs.Cells.{cell_pool, IsExtentPlace, extents_left}
use Rattle.explain_reasons.proofs.Extents.{first_of}
use Rattle.explain_reasons.proofs.cells.extent_in.Given as goal

abbrev pub invariant-loop-extent : goal.invariant-loop-extent
invariant-loop-extent l =
    record {
      place : IsExtentPlace l.storage l.place;
      left : IfSome (cell_pool l.storage l.id) (λ p. first_of p l.r.address (8 * doublewords l.r.length) (extents_left l.storage l.place)
          ≡ first_of p l.r.address (8 * doublewords l.r.length) p.extents);
    }

abbrev pub decreases-loop-extent : goal.decreases-loop-extent
decreases-loop-extent l = length (extents_left l.storage l.place)
