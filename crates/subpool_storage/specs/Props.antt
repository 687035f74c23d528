-- That subpools with their storage are kept in elements has at most one proof.
use Rattle.std.proofs.Props.{props}
use Rattle.vsm_elements.specs.Store.{Store}
use Rattle.subpool_set.specs.Props.{IsSubpoolSet-prop, AreApart-prop}
use Rattle.cell_pool.specs.Props.{IsCellPools-prop, Pool-set}
use Rattle.subpool_storage.specs.declared.storage.SubpoolStorage.{SubpoolStorage}
use Rattle.subpool_storage.specs.Subpools.{Subpools}
use Rattle.subpool_storage.specs.SubpoolStorage.{StandsIn, Stands}

pub Subpools-set : IsSet Subpools
Subpools-set = hlevel (Pool-set, props)

StandsIn-prop : (s : Store) (q : SubpoolStorage) → IsProp (StandsIn s q)
StandsIn-prop s q = hlevel (IsSubpoolSet-prop, AreApart-prop, IsCellPools-prop, props)

pub Stands-prop : (s : Store) (q : SubpoolStorage) → IsProp (Stands s q)
unfolding Stands
Stands-prop s q = StandsIn-prop s q
