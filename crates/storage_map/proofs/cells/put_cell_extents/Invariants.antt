use Rattle.std.proofs.Common.{◌+◌, ◌*◌, ◌^◌, ◌<◌, All, flat_map, length}
use Rattle.cell_pool.specs.Pools.{rounded}
use Rattle.storage_map.specs.Cells.{IsExtentPlace, extents_left}
use Rattle.storage_map.specs.Lines.{cell_extent_line}
use Rattle.storage_map.proofs.Remaining.{Remains}
use Rattle.storage_map.proofs.cells.put_cell_extents.Given as goal

abbrev pub invariant-loop-extent : goal.invariant-loop-extent
invariant-loop-extent g l =
    record {
      place : IsExtentPlace l.storage l.place;
      ends : All (λ x. x.start + rounded (x.count * l.fn.size) < 2 ^ 31) (extents_left l.storage l.place);
      text : Remains (g.W.Write.contents l.fn.writer) (g.W.Write.contents l.writer) l.fn.gathered l.gathered
          (flat_map (cell_extent_line l.fn.size) (extents_left l.storage l.fn.first)) (flat_map (cell_extent_line l.fn.size) (extents_left l.storage l.place));
    }

abbrev pub decreases-loop-extent : goal.decreases-loop-extent
decreases-loop-extent g l = length (extents_left l.storage l.place)
