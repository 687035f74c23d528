use Rattle.std.proofs.Common.{◌≡◌, ◌+◌, ◌*◌}
use Rattle.vsm_model.specs.CellPools.{cells_from}
use Rattle.explain_areas.specs.Cells.{AddsCells}
use Rattle.explain_areas.proofs.cells.add_extent.Given as goal

abbrev pub invariant-loop-n : goal.invariant-loop-n
invariant-loop-n l = record {
  at : l.cell ≡ l.fn.extent.start + l._n * l.pool.settings.size;
  cells : AddsCells l.storage l.pool (cells_from l.pool.settings.size l.fn.extent.start l._n) l.initial.cells.items l.cells.items;
}
