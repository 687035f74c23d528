-- How cell pools are kept in a table of lists: a pool to a row. No public clause cites this module.
use Rattle.std.specs.Prelude.{List, [], ◌∷◌, map}
use Rattle.vsm_elements.specs.Store.{Store}
use Rattle.list_table.specs.Entries.{Entry}
use Rattle.list_table.specs.ListTable.{entries, IsTable}
use Rattle.list_table.specs.declared.table.ListTable.{ListTable}
use Rattle.cell_pool.specs.Pools.{Pool, Single}
use Rattle.cell_pool.specs.Items.{pool_of, IsSound}

abbrev pub pools_of : List Entry → List Pool
pools_of es = map pool_of es

abbrev pub AllSound : List Entry → Type 0
AllSound [] = Unit {0}
AllSound (e ∷ es) = IsSound e × AllSound es

pub record IsKept (s : Store) (q : ListTable) : Type 0 where
  pub table : IsTable s q
  pub single : Single (pools_of (entries s q))
  pub sound : AllSound (entries s q)
