-- What a contract sees of a `SubpoolSet`: which task sees which subpool, the subpools with their ids and their queues'
-- heads, and the elements that the set owns. Those of the queues are not among them: they are named through a head.
--
-- The definitions are closed, so that nothing above depends on how subpools are kept in the elements.
use Rattle.std.specs.Prelude.{◌≡◌, ℕ, List, drop, Some, option_map}
use Rattle.vsm_elements.specs.Store.{Store}
use Rattle.row_table.specs.Rows.{word}
use Rattle.row_table.specs.RowTable.{row, rows, words_of, id_before, place_index, IsPlace}
use Rattle.row_table.specs.RowTable
use Rattle.subpool_set.specs.declared.set.SubpoolSet.{SubpoolSet}
use Rattle.subpool_set.specs.declared.parked.ParkedPool.{ParkedPool}
use Rattle.subpool_set.specs.declared.places.SubpoolPlace.{SubpoolPlace}
use Rattle.subpool_set.specs.declared.sharers.SharerPlace.{SharerPlace}
use Rattle.subpool_set.specs.Pools.{Sight, Pools}
use Rattle.subpool_set.specs.Kept.{sight_in, pools_in, IsKept}
use Rattle.subpool_set.specs.Heads.{ids_in_all}
use Rattle.subpool_set.specs.Walks.{pool_ids, sharers_behind}
use Rattle.subpool_set.specs.QueueElements.{AreApart}

-- the owner of the subpool that a task sees at a number
unfoldable pub sight : Store → SubpoolSet → Sight
sight s q = sight_in (row s q.rows)

-- the subpool of a number and an owner
unfoldable pub pool : Store → SubpoolSet → Pools
pool s q = pools_in (row s q.rows)

-- the ids of the set's elements
unfoldable pub owned : Store → SubpoolSet → List ℕ
owned s q = RowTable.owned s q.rows

-- the set is kept in these elements
unfoldable pub IsSubpoolSet : Store → SubpoolSet → Type 0
IsSubpoolSet s q = IsKept s q.rows

-- the number and the owner of the subpool of this id
unfoldable pub number_of : Store → ℕ → ℕ
number_of s id = word (words_of s id) 1

unfoldable pub owner_of : Store → ℕ → ℕ
owner_of s id = word (words_of s id) 2

-- the id is that of a subpool of the set
abbrev pub IsSubpool : Store → SubpoolSet → ℕ → Type 0
IsSubpool s q id = option_map (λ p. p.id) (pool s q (number_of s id) (owner_of s id)) ≡ Some id

-- the ids of the elements of all subpools' queues
unfoldable pub queue_ids : Store → SubpoolSet → List ℕ
queue_ids s q = ids_in_all s (rows s q.rows)

-- The queues of all subpools are intact, each in elements of its own, and apart from the set's.
abbrev pub QueuesStand : Store → SubpoolSet → Type 0
QueuesStand s q = AreApart s (pool s q) (owned s q)

-- the place is before, between or after the set's subpools
unfoldable pub IsSubpoolPlace : Store → SubpoolSet → SubpoolPlace → Type 0
IsSubpoolPlace s q place = IsPlace s q.rows place.next

-- the ids of the subpools after the place
unfoldable pub pools_left : Store → SubpoolSet → SubpoolPlace → List ℕ
pools_left s q place = pool_ids (drop (place_index place.next) (rows s q.rows))

-- the id of the subpool before the place, after one that was read
unfoldable pub pool_before : SubpoolPlace → ℕ
pool_before place = id_before place.next

-- the tasks after the place that share the subpool of this number with this owner
unfoldable pub sharers_left : Store → SubpoolSet → SharerPlace → ℕ → ℕ → List ℕ
sharers_left s q place number owner = sharers_behind (sight s q) number owner place.behind

-- A parked pool is a small set of its own.

abbrev pub parked_sight : Store → ParkedPool → Sight
parked_sight s p = sight s p.set

abbrev pub parked_pool : Store → ParkedPool → Pools
parked_pool s p = pool s p.set

abbrev pub parked_owned : Store → ParkedPool → List ℕ
parked_owned s p = owned s p.set

abbrev pub IsParked : Store → ParkedPool → Type 0
IsParked s p = IsSubpoolSet s p.set

abbrev pub parked_queue_ids : Store → ParkedPool → List ℕ
parked_queue_ids s p = queue_ids s p.set

abbrev pub ParkedQueuesStand : Store → ParkedPool → Type 0
ParkedQueuesStand s p = QueuesStand s p.set
