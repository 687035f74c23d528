use Rattle.service_laws.proofs.CellRefused.{build_is_refused, delete_is_refused, free_is_refused, get_is_refused}
use Rattle.service_laws.proofs.cells.refused_for_the_first_cause.Goals as goal

pub returns-clause-build : goal.returns-clause-build
returns-clause-build c = build_is_refused

pub returns-clause-get : goal.returns-clause-get
returns-clause-get c = get_is_refused

pub returns-clause-free : goal.returns-clause-free
returns-clause-free c = free_is_refused

pub returns-clause-delete : goal.returns-clause-delete
returns-clause-delete c = delete_is_refused
