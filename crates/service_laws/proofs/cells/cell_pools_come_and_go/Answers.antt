use Rattle.service_laws.proofs.BuiltAndDeleted.{build_makes_a_cell_pool, delete_gives_its_extents_back}
use Rattle.service_laws.proofs.Order.{order_is_without_meaning}
use Rattle.service_laws.proofs.cells.cell_pools_come_and_go.Goals as goal

pub returns-clause-build : goal.returns-clause-build
returns-clause-build c = build_makes_a_cell_pool

pub returns-clause-delete : goal.returns-clause-delete
returns-clause-delete c = delete_gives_its_extents_back

pub returns-clause-order : goal.returns-clause-order
returns-clause-order c = order_is_without_meaning
