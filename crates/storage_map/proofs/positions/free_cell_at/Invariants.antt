use Rattle.std.proofs.Common.{◌≡◌, drop}
use Rattle.std.specs.Prelude.{IfSome}
use Rattle.storage_map.specs.Cells.{cell_pool, IsCellPlace, cells_left}
use Rattle.storage_map.proofs.positions.free_cell_at.Given as goal

abbrev pub invariant-loop : goal.invariant-loop
invariant-loop l = record {
  place : IsCellPlace l.storage l.place;
  left : IfSome (cell_pool l.storage l.fn.id) (λ p. cells_left l.storage l.place ≡ drop l.counter p.cells);
}
