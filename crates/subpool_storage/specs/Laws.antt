-- Laws of subpools with their storage.
use Rattle.std.specs.Prelude.{◌≡◌, ℕ, ◌<◌, ◌≤◌, Some, IsSome, true}
use Rattle.vsm_elements.specs.Store.{Store, at}
use Rattle.vsm_model.specs.declared.Subpool.{Subpool}
use Rattle.subpool_storage.specs.declared.storage.SubpoolStorage.{SubpoolStorage}
use Rattle.cell_pool.specs.Pools.{Pool}
use Rattle.cell_pool.specs.Named.{AreNamed}
use Rattle.subpool_storage.specs.Subpools.{is_there}
use Rattle.subpool_storage.specs.SubpoolStorage.{subpools_of, hold, Stands}

-- the storage holds each element at most once, and only live ones
abbrev pub StorageOwns : Type 0
StorageOwns = (s : Store) (q : SubpoolStorage) → Stands s q
    → ((i : ℕ) → hold s q i ≤ 1) × ((i : ℕ) → 0 < hold s q i → IsSome (at s i))

-- a task that sees a subpool is from 1 to 64, and sees it at a number up to 127, and its owner sees it; pages and free
-- storage are those of subpools that exist
abbrev pub SubpoolsAreThere : Type 0
SubpoolsAreThere = (s : Store) (q : SubpoolStorage) → Stands s q
    → ((task number : ℕ) → IsSome ((subpools_of s q).sight task number) → (1 ≤ task) × (task ≤ 64) × (number ≤ 127))
    × ((task number owner : ℕ) → (subpools_of s q).sight task number ≡ Some owner
    → (subpools_of s q).sight owner number ≡ Some owner)
    × ((p : Subpool) (page : ℕ) → (subpools_of s q).pages p page ≡ true → is_there (subpools_of s q) p ≡ true)
    × ((p : Subpool) (d : ℕ) → (subpools_of s q).free p d ≡ true → is_there (subpools_of s q) p ≡ true)

-- if the elements that it holds are as they were, so is all that it is
abbrev pub StorageStays : Type 0
StorageStays = (s t : Store) (q : SubpoolStorage) → Stands s q → ((i : ℕ) → 0 < hold s q i → at t i ≡ at s i)
    → Stands t q × (subpools_of t q ≡ subpools_of s q) × ((i : ℕ) → hold t q i ≡ hold s q i)

-- the id of a cell pool is that of an element that is held
abbrev pub PoolsAreHeld : Type 0
PoolsAreHeld = (s : Store) (q : SubpoolStorage) (id : ℕ) (p : Pool) → Stands s q → (subpools_of s q).cells id ≡ Some p
    → 0 < hold s q id

-- a cell pool is found under its own id, which is an element's, each has a name of its own, and its free cells are
-- cells of its extents
abbrev pub CellPoolsAreNamed : Type 0
CellPoolsAreNamed = (s : Store) (q : SubpoolStorage) → Stands s q → AreNamed (subpools_of s q).cells
