use Rattle.service_laws.proofs.Promised.{free_makes_a_cell_free, get_hands_out_a_cell}
use Rattle.service_laws.proofs.cells.cells_are_handed_out.Goals as goal

pub returns-clause-get : goal.returns-clause-get
returns-clause-get c = get_hands_out_a_cell

pub returns-clause-free : goal.returns-clause-free
returns-clause-free c = free_makes_a_cell_free
