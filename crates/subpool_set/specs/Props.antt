-- That subpools and their queues are intact has at most one proof.
use Rattle.std.specs.Prelude.{ℕ, List}
use Rattle.std.proofs.Props.{props}
use Rattle.vsm_elements.specs.Store.{Store}
use Rattle.vsm_elements.specs.Props.{Apart-prop}
use Rattle.descriptor_queue.specs.Props.{IsExtents-prop}
use Rattle.free_queue.specs.Props.{IsFreeQueue-prop}
use Rattle.row_table.specs.declared.table.RowTable.{RowTable}
use Rattle.row_table.specs.Props.{IsTable-prop}
use Rattle.subpool_set.specs.declared.queues.Queues.{Queues}
use Rattle.subpool_set.specs.declared.set.SubpoolSet.{SubpoolSet}
use Rattle.subpool_set.specs.Pools.{Pools}
use Rattle.subpool_set.specs.QueueElements.{StandApart, AreApart}
use Rattle.subpool_set.specs.Kept.{IsKept}
use Rattle.subpool_set.specs.SubpoolSet.{pool, owned, IsSubpoolSet, QueuesStand}

IsKept-prop : (s : Store) (q : RowTable) → IsProp (IsKept s q)
IsKept-prop s q = hlevel (IsTable-prop, props)

pub IsSubpoolSet-prop : (s : Store) (q : SubpoolSet) → IsProp (IsSubpoolSet s q)
unfolding IsSubpoolSet
IsSubpoolSet-prop s q = IsKept-prop s q.rows

pub StandApart-prop : (s : Store) (q : Queues) → IsProp (StandApart s q)
StandApart-prop s q = hlevel (IsExtents-prop, IsFreeQueue-prop, Apart-prop, props)

pub AreApart-prop : (s : Store) (pools : Pools) (others : List ℕ) → IsProp (AreApart s pools others)
AreApart-prop s pools others = hlevel (StandApart-prop, Apart-prop, props)

pub QueuesStand-prop : (s : Store) (q : SubpoolSet) → IsProp (QueuesStand s q)
QueuesStand-prop s q = AreApart-prop s (pool s q) (owned s q)
