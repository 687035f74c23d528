use Rattle.std.proofs.Common.{◌≡◌, ◌-◌, drop, length}
use Rattle.row_table.specs.RowTable.{rows, place_index, IsPlace}
use Rattle.subpool_set.specs.Walks.{pool_ids}
use Rattle.subpool_set.proofs.set.SubpoolSet.next_subpool.Given as goal

abbrev pub invariant-loop-row : goal.invariant-loop-row
invariant-loop-row l = record {
  place : IsPlace l.elements l.self.rows l.at;
  left : pool_ids (drop (place_index l.fn.place.next) (rows l.elements l.self.rows)) ≡ pool_ids (drop (place_index l.at) (rows l.elements l.self.rows));
}

abbrev pub decreases-loop-row : goal.decreases-loop-row
decreases-loop-row l = length (rows l.elements l.self.rows) - place_index l.at
