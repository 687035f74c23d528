use Rattle.std.proofs.Common.{◌≡◌, ◌-◌}
use Rattle.std.specs.Prelude.{slice_get}
use Rattle.subpool_set.specs.Pools.{sharers}
use Rattle.storage_core.specs.Meaning.{state_in_place}
use Rattle.storage_core.specs.Walks.{sharers_left}
use Rattle.storage_core.proofs.storage.Storage.sharer_at.Given as goal

abbrev pub invariant-loop : goal.invariant-loop
invariant-loop l = record {
  at : slice_get (sharers_left l.self l.place l.fn.subpool) (l.i - l.counter)
      ≡ slice_get (sharers (state_in_place l.self).subpools.sight l.fn.subpool.number l.fn.subpool.owner) l.i;
}
