use Rattle.std.proofs.Common.{[]}
use Rattle.list_table.proofs.ListParts.{Apart-sym}
use Rattle.cell_pool.specs.CellPools.{owned, parked_owned}
use Rattle.cell_pool.proofs.LawLemmas.{pools_stay}
use Rattle.tests_lower.proofs.cells.the_pools_of_a_subpool_are_parked_and_restored.Goals as goal

pub park_pools-rest-requires : goal.park_pools-rest-requires
park_pools-rest-requires g c =
    (pools_stay c.park_pools-parked.new.elements c.discard.new.elements (parked_owned c.park_pools-parked.new.elements c.park_pools-parked.result) [] c.park_pools-parked.new.self c.discard.ensures c.park_pools-parked.ensures.takes.pools
    (Apart-sym (owned c.park_pools-parked.new.elements c.park_pools-parked.new.self) (parked_owned c.park_pools-parked.new.elements c.park_pools-parked.result) c.park_pools-parked.ensures.takes.apart)).stand
