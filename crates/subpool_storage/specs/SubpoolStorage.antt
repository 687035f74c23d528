-- What a contract sees of a `SubpoolStorage`: its subpools as functions, and how often it holds an element.
--
-- The definitions are closed, so that nothing above depends on how the subpools are kept in the elements.
use Rattle.std.specs.Prelude.{◌≡◌, ℕ, ◌+◌, ◌≤◌, Bool, false, List, map, Option, Some, None}
use Rattle.vsm_elements.specs.Store.{Store, made_and_aside}
use Rattle.vsm_elements.specs.Owners.{times, Moves}
use Rattle.descriptor_queue.specs.Extents.{has_page}
use Rattle.free_queue.specs.FreeQueue.{is_free}
use Rattle.cell_pool.specs.CellPools.{by_id, IsCellPools}
use Rattle.cell_pool.specs.CellPools
use Rattle.subpool_set.specs.Pools.{Pool}
use Rattle.subpool_set.specs.SubpoolSet.{sight, pool, owned, queue_ids, number_of, owner_of, IsSubpoolSet, QueuesStand}
use Rattle.subpool_set.specs.SubpoolSet.{pool_before}
use Rattle.subpool_set.specs.SubpoolSet
use Rattle.subpool_set.specs.declared.places.SubpoolPlace.{SubpoolPlace}
use Rattle.subpool_set.specs.declared.sharers.SharerPlace.{SharerPlace}
use Rattle.vsm_model.specs.declared.Subpool.{Subpool}
use Rattle.subpool_storage.specs.declared.storage.SubpoolStorage.{SubpoolStorage}
use Rattle.subpool_storage.specs.Subpools.{Subpools}

abbrev pub page_in : Store → Option Pool → ℕ → Bool
page_in s None page = false
page_in s (Some p) page = has_page s p.queues.extents page

abbrev pub free_in : Store → Option Pool → ℕ → Bool
free_in s None d = false
free_in s (Some p) d = is_free s p.queues.free d

-- the subpools, with their pages, their free storage and their cell pools
unfoldable pub subpools_of : Store → SubpoolStorage → Subpools
subpools_of s q =
    record {
      sight = λ task number. sight s q.set task number;
      pages = λ p page. page_in s (pool s q.set p.number p.owner) page;
      free = λ p d. free_in s (pool s q.set p.number p.owner) d;
      cells = λ id. by_id s q.cells id;
    }

-- how often it holds an element, in its rows or in a queue
abbrev pub hold_queues : Store → SubpoolStorage → ℕ → ℕ
hold_queues s q i = times i (owned s q.set) + times i (queue_ids s q.set)

-- and in those or in a cell pool
unfoldable pub hold : Store → SubpoolStorage → ℕ → ℕ
hold s q i = hold_queues s q i + times i (CellPools.owned s q.cells)

-- the subpools, their queues and their cell pools are kept in these elements, and no element is of both
pub record StandsIn (s : Store) (q : SubpoolStorage) : Type 0 where
  pub set : IsSubpoolSet s q.set
  pub queues : QueuesStand s q.set
  pub cells : IsCellPools s q.cells
  pub apart : (i : ℕ) → hold_queues s q i + times i (CellPools.owned s q.cells) ≤ 1

unfoldable pub Stands : Store → SubpoolStorage → Type 0
Stands s q = StandsIn s q

-- the subpool that an id names
abbrev pub named : Store → ℕ → Subpool
named s id = record { number = number_of s id; owner = owner_of s id }

-- the place is before, between or after the subpools
unfoldable pub IsSubpoolPlace : Store → SubpoolStorage → SubpoolPlace → Type 0
IsSubpoolPlace s q place = SubpoolSet.IsSubpoolPlace s q.set place

-- the subpools after the place
unfoldable pub subpools_left : Store → SubpoolStorage → SubpoolPlace → List Subpool
subpools_left s q place = map (named s) (SubpoolSet.pools_left s q.set place)

-- the subpool before the place, after one that was read
unfoldable pub subpool_before : Store → SubpoolPlace → Subpool
subpool_before s place = named s (pool_before place)

-- the place is after a subpool that was read
pub record IsBehind (s : Store) (q : SubpoolStorage) (place : SubpoolPlace) : Type 0 where
  pub walked : SubpoolSet.IsSubpoolPlace s q.set place
  pub pool : SubpoolSet.IsSubpool s q.set (pool_before place)

unfoldable pub IsBehindSubpool : Store → SubpoolStorage → SubpoolPlace → Type 0
IsBehindSubpool s q place = IsBehind s q place

-- the tasks after the place that see the subpool, except its owner
unfoldable pub sharers_left : Store → SubpoolStorage → SharerPlace → Subpool → List ℕ
sharers_left s q place p = SubpoolSet.sharers_left s q.set place p.number p.owner

-- the subpools are m, only their elements changed, and none was made
pub record Becomes (s t : Store) (q r : SubpoolStorage) (m : Subpools) : Type 0 where
  pub stands : Stands t r
  pub moves : Moves s t (hold s q) (hold t r)
  pub as_many : made_and_aside t ≡ made_and_aside s
  pub subpools : subpools_of t r ≡ m
