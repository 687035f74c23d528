use Rattle.service_laws.proofs.Again.{last_freed_is_first}
use Rattle.service_laws.proofs.Apart.{cells_of_a_pool_lie_apart, cells_of_two_pools_lie_apart, handed_out_was_not_in_use}
use Rattle.service_laws.proofs.Once.{no_cell_is_handed_out_twice}
use Rattle.service_laws.proofs.CellStays.{stays_in_use}
use Rattle.service_laws.proofs.cells.no_cell_is_handed_out_twice.Goals as goal

pub returns-clause-handed_out : goal.returns-clause-handed_out
returns-clause-handed_out c = handed_out_was_not_in_use

pub returns-clause-stays : goal.returns-clause-stays
returns-clause-stays c = stays_in_use

pub returns-clause-apart : goal.returns-clause-apart
returns-clause-apart c = cells_of_a_pool_lie_apart

pub returns-clause-apart_from_others : goal.returns-clause-apart_from_others
returns-clause-apart_from_others c = cells_of_two_pools_lie_apart

pub returns-clause-last_first : goal.returns-clause-last_first
returns-clause-last_first c = last_freed_is_first

pub returns-clause-once : goal.returns-clause-once
returns-clause-once c = no_cell_is_handed_out_twice
