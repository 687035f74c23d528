-- The elements of subpools' queues: each queue is intact, and no element is two queues', or a queue's and the set's.
use Rattle.std.specs.Prelude.{◌≡◌, ℕ, false, Some, List, ◌++◌}
use Rattle.vsm_elements.specs.Store.{Store}
use Rattle.vsm_elements.specs.Ownership.{Apart}
use Rattle.descriptor_queue.specs.Extents.{IsExtents}
use Rattle.descriptor_queue.specs.Extents
use Rattle.free_queue.specs.FreeQueue.{IsFreeQueue}
use Rattle.free_queue.specs.FreeQueue
use Rattle.row_table.specs.Rows.{same_key, either_of}
use Rattle.subpool_set.specs.declared.queues.Queues.{Queues}
use Rattle.subpool_set.specs.Pools.{Pool, Pools}

-- the ids of the elements of both queues
abbrev pub ids_of : Store → Queues → List ℕ
ids_of s q = Extents.owned s q.extents ++ FreeQueue.owned s q.free

-- both queues are intact, in different elements
pub record StandApart (s : Store) (q : Queues) : Type 0 where
  pub extents : IsExtents s q.extents
  pub free : IsFreeQueue s q.free
  pub apart : Apart (Extents.owned s q.extents) (FreeQueue.owned s q.free)

-- the queues of these subpools are intact, each subpool's in elements of its own, and none in these others
pub record AreApart (s : Store) (pools : Pools) (others : List ℕ) : Type 0 where
  pub stand : (n o : ℕ) (p : Pool) → pools n o ≡ Some p → StandApart s p.queues
  pub apart : (n o m r : ℕ) (p x : Pool) → pools n o ≡ Some p → pools m r ≡ Some x → same_key n o m r ≡ false
      → Apart (ids_of s p.queues) (ids_of s x.queues)
  pub beside : (n o : ℕ) (p : Pool) → pools n o ≡ Some p → Apart others (ids_of s p.queues)

-- two sets of subpools at once, each with others of its own
abbrev pub AreApartTogether : Store → Pools → Pools → List ℕ → List ℕ → Type 0
AreApartTogether s first second others beside =
    AreApart s (λ n o. either_of (first n o) (second n o)) (others ++ beside)
