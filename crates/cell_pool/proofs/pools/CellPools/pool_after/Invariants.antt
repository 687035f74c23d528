use Rattle.std.proofs.Common.{◌≡◌, ◌-◌, take, true, None, Some}
use Rattle.std.specs.Prelude.{IfSome, option_map}
use Rattle.list_table.specs.ListTable.{entries, IsPlace}
use Rattle.cell_pool.specs.Pools.{Pool, first_with, id_in}
use Rattle.cell_pool.specs.Kept.{pools_of}
use Rattle.cell_pool.specs.Order.{is_after, is_between}
use Rattle.cell_pool.proofs.pools.CellPools.pool_after.Given as goal

abbrev pub invariant-loop-place : goal.invariant-loop-place
invariant-loop-place l = record {
  place : IsPlace l.elements l.self.table l.place.index l.place.before;
  found : IfSome l.next (λ c. (p : Pool) × (id_in c.id (pools_of (entries l.elements l.self.table)) ≡ Some p) × (p.name ≡ c.name.bytes) × (is_after (option_map (λ n. n.now.bytes) l.behind) c.name.bytes ≡ true));
  earlier : first_with (λ p. is_between (option_map (λ n. n.now.bytes) l.behind) (option_map (λ c. c.name.bytes) l.next) p.name) (pools_of (take l.place.index (entries l.elements l.self.table))) ≡ None;
}

abbrev pub decreases-loop-place : goal.decreases-loop-place
decreases-loop-place l = l.count - l.place.index
