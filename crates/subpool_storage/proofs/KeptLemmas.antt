-- Cell pools whose elements are as they were are what they were, and own the elements that their ids name.
use Rattle.std.proofs.Common.{◌≡◌, ℕ, ◌<◌, Some}
use Rattle.vsm_elements.specs.Store.{Store, at}
use Rattle.vsm_elements.specs.Owners.{times}
use Rattle.vsm_elements.proofs.TimesLemmas.{times-some}
use Rattle.cell_pool.specs.declared.pools.CellPools.{CellPools}
use Rattle.cell_pool.specs.Pools.{Pool}
use Rattle.cell_pool.specs.CellPools.{by_id, owned, IsCellPools}
use Rattle.cell_pool.specs.Laws.{AreSame}
use Rattle.cell_pool.proofs.ExchangeLemmas.{id_owned}
use Rattle.cell_pool.proofs.LawLemmas as pools

pub pools_kept : (s t : Store) (q : CellPools) → IsCellPools s q → ((i : ℕ) → 0 < times i (owned s q) → at t i ≡ at s i) → AreSame s t q
pools_kept s t q h same = pools.pools_kept s t q h (λ i m. same i (times-some i (owned s q) m))

-- the id of a cell pool is that of an element of its own
pub ids_are_owned : (s : Store) (q : CellPools) (i : ℕ) (p : Pool) → by_id s q i ≡ Some p → 0 < times i (owned s q)
ids_are_owned s q i p e = times-some i (owned s q) (id_owned s q i p e)
