-- Laws of cell pools.
use Rattle.std.specs.Prelude.{◌≡◌, ℕ, ◌<◌, ◌^◌, Bool, true, List, ◌∷◌, map, Option, Some}
use Rattle.vsm_elements.specs.Store.{Store, at, among, SameElements, Distinct}
use Rattle.vsm_elements.specs.Ownership.{Owns, Leaves, Apart}
use Rattle.cell_pool.specs.declared.pools.CellPools.{CellPools}
use Rattle.cell_pool.specs.Pools.{Pool, HasCells, without_first, uses, id_in, pool_in, extended, retracted}
use Rattle.cell_pool.specs.Pools.{only, all_but, either_of}
use Rattle.cell_pool.specs.CellPools.{pools, pool, by_id, owned, IsCellPools}

-- the pool of a name is the pool of its id, and the other way round
pub record AreOne (s : Store) (q : CellPools) : Type 0 where
  pub names : (n : List ℕ) (p : Pool) → pool s q n ≡ Some p → (p.name ≡ n) × (by_id s q p.id ≡ Some p)
  pub ids : (i : ℕ) (p : Pool) → by_id s q i ≡ Some p → (p.id ≡ i) × (pool s q p.name ≡ Some p)

abbrev pub PoolsAreOne : Type 0
PoolsAreOne = (s : Store) (q : CellPools) → IsCellPools s q → AreOne s q

-- cell pools own their elements
abbrev pub PoolsOwn : Type 0
PoolsOwn = (s : Store) (q : CellPools) → IsCellPools s q → Owns s (owned s q)

-- the pools are what they were
pub record AreSame (s t : Store) (q : CellPools) : Type 0 where
  pub stand : IsCellPools t q
  pub names : (n : List ℕ) → pool t q n ≡ pool s q n
  pub ids : (i : ℕ) → by_id t q i ≡ by_id s q i
  pub elements : owned t q ≡ owned s q

-- cell pools whose elements are as they were are what they were
abbrev pub PoolsKept : Type 0
PoolsKept = (s t : Store) (q : CellPools) → IsCellPools s q
    → ((id : ℕ) → among id (owned s q) ≡ true → at t id ≡ at s id) → AreSame s t q

-- cell pools that are apart from what a call owns are as they were
abbrev pub PoolsStay : Type 0
PoolsStay = (s t : Store) (had has : List ℕ) (q : CellPools) → Leaves s t had has → IsCellPools s q
    → Apart had (owned s q) → AreSame s t q

-- if every id keeps what it had, so do cell pools
abbrev pub GrowthKeepsPools : Type 0
GrowthKeepsPools = (s t : Store) (q : CellPools) → SameElements s t → IsCellPools s q → AreSame s t q

-- an extent that was added last is what is removed
abbrev pub RetractsBack : Type 0
RetractsBack = (p : Pool) (start count : ℕ) → retracted count (extended start count p) ≡ p

-- pools that are taken out and put back are what they were, under each name and each id
abbrev pub ParkedPoolsComeBack : Type 0
ParkedPoolsComeBack = (test : Pool → Bool) (found : Option Pool)
    → either_of (only test found) (all_but test found) ≡ found

-- each pool's free cells are cells of its extents
abbrev pub PoolsHaveCells : Type 0
PoolsHaveCells = (s : Store) (q : CellPools) (i : ℕ) (p : Pool) → IsCellPools s q → by_id s q i ≡ Some p → HasCells p

-- the first free cell, once it's handed out, is in use
abbrev pub FirstCellIsUsed : Type 0
FirstCellIsUsed = (p : Pool) (cell : ℕ) (rest : List ℕ) → HasCells p → p.cells ≡ cell ∷ rest
    → uses (without_first p) cell ≡ true

-- an id is one word
abbrev pub IdsAreSmall : Type 0
IdsAreSmall = (s : Store) (q : CellPools) (i : ℕ) (p : Pool) → IsCellPools s q → by_id s q i ≡ Some p → i < 2 ^ 32

-- pools of one name have one id
abbrev pub NamesAreSingle : Type 0
NamesAreSingle = (s : Store) (q : CellPools) (i j : ℕ) (x y : Pool) → IsCellPools s q → by_id s q i ≡ Some x
    → by_id s q j ≡ Some y → x.name ≡ y.name → i ≡ j

-- the pools are those in a list, each once, and found there by their ids and their names
pub record AreListed (s : Store) (q : CellPools) : Type 0 where
  pub distinct : Distinct (map (λ p. p.id) (pools s q))
  pub ids : (i : ℕ) → by_id s q i ≡ id_in i (pools s q)
  pub names : (n : List ℕ) → pool s q n ≡ pool_in n (pools s q)

abbrev pub PoolsAreListed : Type 0
PoolsAreListed = (s : Store) (q : CellPools) → IsCellPools s q → AreListed s q
