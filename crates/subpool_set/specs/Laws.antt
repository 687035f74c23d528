-- Laws of sets of subpools.
use Rattle.std.specs.Prelude.{◌≡◌, ℕ, ◌+◌, ◌≤◌, true, false, List, [], ◌++◌, Option, Some, None, IsSome}
use Rattle.vsm_elements.specs.Store.{Store, at, among}
use Rattle.vsm_elements.specs.Owners.{times}
use Rattle.vsm_elements.specs.Ownership.{Owns, Leaves, Apart}
use Rattle.descriptor_queue.specs.Extents.{extents, IsExtents}
use Rattle.descriptor_queue.specs.Extents
use Rattle.free_queue.specs.FreeQueue.{areas, IsFreeQueue}
use Rattle.free_queue.specs.FreeQueue
use Rattle.subpool_set.specs.declared.set.SubpoolSet.{SubpoolSet}
use Rattle.row_table.specs.Rows.{same_key, either_of}
use Rattle.subpool_set.specs.Pools.{Pool, Sight, Pools, no_queues, sight_of_pool, sight_without, pools_with, pool_alone}
use Rattle.subpool_set.specs.SubpoolSet.{sight, pool, owned, number_of, owner_of, IsSubpoolSet, IsSubpool}
use Rattle.subpool_set.specs.SubpoolSet.{queue_ids, QueuesStand, IsParked, parked_pool, parked_owned, parked_queue_ids}
use Rattle.subpool_set.specs.SubpoolSet.{IsSubpoolPlace, pools_left, sharers_left}
use Rattle.subpool_set.specs.declared.places.SubpoolPlace.{SubpoolPlace}
use Rattle.subpool_set.specs.declared.sharers.SharerPlace.{SharerPlace}
use Rattle.subpool_set.specs.declared.parked.ParkedPool.{ParkedPool}
use Rattle.subpool_set.specs.QueueElements.{ids_of, StandApart, AreApart, AreApartTogether}
use Rattle.subpool_set.specs.declared.queues.Queues.{Queues}

-- the queues of a new subpool are empty, in any elements
abbrev pub NewQueuesAreEmpty : Type 0
NewQueuesAreEmpty = (s : Store) →
    IsExtents s no_queues.extents × (extents s no_queues.extents ≡ [])
    × (Extents.owned s no_queues.extents ≡ [])
    × IsFreeQueue s no_queues.free × (areas s no_queues.free ≡ []) × (FreeQueue.owned s no_queues.free ≡ [])

-- a set in elements owns them, and what is seen exists, seen by its owner
abbrev pub SetsStand : Type 0
SetsStand = (s : Store) (q : SubpoolSet) → IsSubpoolSet s q
    → Owns s (owned s q) × ((t n o : ℕ) → sight s q t n ≡ Some o → sight s q o n ≡ Some o)

-- a task that sees a subpool is from 1 to 64, and sees it at a number up to 127
abbrev pub SightsAreInRange : Type 0
SightsAreInRange = (s : Store) (q : SubpoolSet) (t n : ℕ) → IsSubpoolSet s q → IsSome (sight s q t n)
    → (1 ≤ t) × (t ≤ 64) × (n ≤ 127)

-- a subpool that exists has one id, which gives its number and owner, and its owner sees it
abbrev pub PoolsAreNamed : Type 0
PoolsAreNamed = (s : Store) (q : SubpoolSet) (n o : ℕ) (p : Pool) → IsSubpoolSet s q → pool s q n o ≡ Some p
    → IsSubpool s q p.id × (number_of s p.id ≡ n) × (owner_of s p.id ≡ o) × (sight s q o n ≡ Some o)

-- a set whose elements are as they were is as it was
abbrev pub SetsKept : Type 0
SetsKept = (s t : Store) (q : SubpoolSet) → IsSubpoolSet s q
    → ((i : ℕ) → among i (owned s q) ≡ true → at t i ≡ at s i)
    → IsSubpoolSet t q × ((task n : ℕ) → sight t q task n ≡ sight s q task n)
    × ((n o : ℕ) → pool t q n o ≡ pool s q n o) × (owned t q ≡ owned s q)

-- a set that is apart from what a call owns, such as one on a queue, is as it was: so is each head in it
abbrev pub SetsStay : Type 0
SetsStay = (s t : Store) (had has : List ℕ) (q : SubpoolSet) → Leaves s t had has → IsSubpoolSet s q
    → Apart had (owned s q)
    → IsSubpoolSet t q × ((task n : ℕ) → sight t q task n ≡ sight s q task n)
    × ((n o : ℕ) → pool t q n o ≡ pool s q n o) × (owned t q ≡ owned s q)

-- a place in a set whose elements are as they were stays one, with what is left after it, and so do the sharers
abbrev pub PlacesKept : Type 0
PlacesKept = (s t : Store) (q : SubpoolSet) → IsSubpoolSet s q
    → ((i : ℕ) → among i (owned s q) ≡ true → at t i ≡ at s i)
    → ((place : SubpoolPlace) → IsSubpoolPlace s q place
    → IsSubpoolPlace t q place × (pools_left t q place ≡ pools_left s q place))
    × ((place : SharerPlace) (number owner : ℕ)
    → sharers_left t q place number owner ≡ sharers_left s q place number owner)

-- also over a call that leaves the set's elements unchanged
abbrev pub PlacesStay : Type 0
PlacesStay = (s t : Store) (had has : List ℕ) (q : SubpoolSet) → Leaves s t had has → IsSubpoolSet s q
    → Apart had (owned s q)
    → ((place : SubpoolPlace) → IsSubpoolPlace s q place
    → IsSubpoolPlace t q place × (pools_left t q place ≡ pools_left s q place))
    × ((place : SharerPlace) (number owner : ℕ)
    → sharers_left t q place number owner ≡ sharers_left s q place number owner)

-- if the elements of the set and of its queues are as they were, the queues are intact, and their ids are the same
abbrev pub QueuesKept : Type 0
QueuesKept = (s t : Store) (q : SubpoolSet) → IsSubpoolSet s q → QueuesStand s q
    → ((i : ℕ) → among i (owned s q) ≡ true → at t i ≡ at s i)
    → ((i : ℕ) → among i (queue_ids s q) ≡ true → at t i ≡ at s i)
    → QueuesStand t q × (queue_ids t q ≡ queue_ids s q)
    × ((n o : ℕ) (p : Pool) → pool s q n o ≡ Some p → ids_of t p.queues ≡ ids_of s p.queues)

-- if a call leaves what the set and its queues own unchanged, the queues are intact, and their ids are the same
abbrev pub QueuesStay : Type 0
QueuesStay = (s t : Store) (had has : List ℕ) (q : SubpoolSet) → Leaves s t had has → IsSubpoolSet s q → QueuesStand s q
    → Apart had (owned s q) → Apart had (queue_ids s q)
    → QueuesStand t q × ((n o : ℕ) (p : Pool) → pool s q n o ≡ Some p → ids_of t p.queues ≡ ids_of s p.queues)

-- a call on the queues of one subpool leaves all others: with its new heads the queues are intact
abbrev pub QueueCallsKeep : Type 0
QueueCallsKeep = (s t : Store) (q : SubpoolSet) (n o : ℕ) (p : Pool) (queues : Queues)
    → IsSubpoolSet s q → QueuesStand s q → pool s q n o ≡ Some p
    → Leaves s t (ids_of s p.queues) (ids_of t queues) → StandApart t queues
    → AreApart t (pools_with (pool t q) n o (Some (record { id = p.id; queues = queues }))) (owned t q)

-- once parked subpools are discarded, a set that is apart from them, and its queues, are as they were
abbrev pub DiscardsKeep : Type 0
DiscardsKeep = (s t : Store) (q : SubpoolSet) (p : ParkedPool) → IsSubpoolSet s q → IsParked s p
    → Apart (parked_owned s p) (owned s q)
    → AreApartTogether s (parked_pool s p) (pool s q) (parked_owned s p) (owned s q)
    → ((n o : ℕ) → IsSome (parked_pool s p n o) → pool s q n o ≡ None)
    → Leaves s t (parked_owned s p ++ parked_queue_ids s p) []
    → IsSubpoolSet t q × QueuesStand t q × ((task n : ℕ) → sight t q task n ≡ sight s q task n)
    × ((n o : ℕ) → pool t q n o ≡ pool s q n o)

-- an id is among the queues' exactly if a subpool's queues have it
abbrev pub QueueIdsAre : Type 0
QueueIdsAre = (s : Store) (q : SubpoolSet) (i : ℕ) → IsSubpoolSet s q
    → (among i (queue_ids s q) ≡ true
    → (n : ℕ) × (o : ℕ) × (p : Pool) × ((pool s q n o ≡ Some p) × (among i (ids_of s p.queues) ≡ true)))
    × ((n o : ℕ) (p : Pool) → pool s q n o ≡ Some p → among i (ids_of s p.queues) ≡ true
    → among i (queue_ids s q) ≡ true)

-- a set and its queues hold each id at most once, and only live ones
abbrev pub QueueIdsAreOnce : Type 0
QueueIdsAreOnce = (s : Store) (q : SubpoolSet) → IsSubpoolSet s q → QueuesStand s q
    → ((i : ℕ) → times i (owned s q) + times i (queue_ids s q) ≤ 1)
    × ((i : ℕ) → among i (queue_ids s q) ≡ true → IsSome (at s i))

-- the ids of the queues of a subpool, if one exists
abbrev pub ids_at : Store → Option Pool → List ℕ
ids_at s None = []
ids_at s (Some p) = ids_of s p.queues

-- if one subpool is created, removed or gets other queues, and those of all others are as they were, the ids of the
-- queues change by those of that one
abbrev pub QueueIdsFollow : Type 0
QueueIdsFollow = (s t : Store) (q r : SubpoolSet) (n o : ℕ) (x : Option Pool)
    → IsSubpoolSet s q → QueuesStand s q → IsSubpoolSet t r → QueuesStand t r
    → ((m k : ℕ) → pool t r m k ≡ pools_with (pool s q) n o x m k)
    → ((m k : ℕ) (p : Pool) → pool s q m k ≡ Some p → same_key n o m k ≡ false
    → ids_of t p.queues ≡ ids_of s p.queues)
    → (i : ℕ)
    → times i (queue_ids t r) + times i (ids_at s (pool s q n o)) ≡ times i (queue_ids s q) + times i (ids_at t x)

-- what was taken out, put back with what was left, is what existed before
abbrev pub PutBack : Type 0
PutBack = (f : Sight) (p : Pools) (number owner : ℕ)
    → ((t n : ℕ) → either_of (sight_of_pool f number owner t n) (sight_without f number owner t n) ≡ f t n)
    × ((n o : ℕ) → either_of (pool_alone p number owner n o) (pools_with p number owner None n o) ≡ p n o)
    × ((t n : ℕ) → IsSome (sight_of_pool f number owner t n) → sight_without f number owner t n ≡ None)
    × ((n o : ℕ) → IsSome (pool_alone p number owner n o) → pools_with p number owner None n o ≡ None)
