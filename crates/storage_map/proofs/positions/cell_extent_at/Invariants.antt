use Rattle.std.proofs.Common.{◌≡◌, drop}
use Rattle.std.specs.Prelude.{IfSome}
use Rattle.storage_map.specs.Cells.{cell_pool, IsExtentPlace, extents_left}
use Rattle.storage_map.proofs.positions.cell_extent_at.Given as goal

abbrev pub invariant-loop : goal.invariant-loop
invariant-loop l = record {
  place : IsExtentPlace l.storage l.place;
  left : IfSome (cell_pool l.storage l.fn.id) (λ p. extents_left l.storage l.place ≡ drop l.counter p.extents);
}
