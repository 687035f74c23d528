use Rattle.subpool_storage.proofs.LawLemmas.{cell_pools_are_named}
use Rattle.subpool_storage.proofs.laws.cell_pools_are_named.Goals as goal

pub returns : goal.returns
returns c = cell_pools_are_named
