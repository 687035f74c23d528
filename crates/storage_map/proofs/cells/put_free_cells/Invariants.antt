use Rattle.std.proofs.Common.{flat_map, length}
use Rattle.storage_map.specs.Cells.{IsCellPlace, cells_left}
use Rattle.storage_map.specs.Lines.{free_cell_line}
use Rattle.storage_map.proofs.Remaining.{Remains}
use Rattle.storage_map.proofs.cells.put_free_cells.Given as goal

abbrev pub invariant-loop-cell : goal.invariant-loop-cell
invariant-loop-cell g l =
    record {
      place : IsCellPlace l.storage l.place;
      text : Remains (g.W.Write.contents l.fn.writer) (g.W.Write.contents l.writer) l.fn.gathered l.gathered
          (flat_map free_cell_line (cells_left l.storage l.fn.first)) (flat_map free_cell_line (cells_left l.storage l.place));
    }

abbrev pub decreases-loop-cell : goal.decreases-loop-cell
decreases-loop-cell g l = length (cells_left l.storage l.place)
