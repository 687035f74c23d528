use Rattle.service_laws.proofs.Building.{build_leaves_well_formed}
use Rattle.service_laws.proofs.Deleting.{delete_leaves_well_formed}
use Rattle.service_laws.proofs.Getting.{free_leaves_well_formed, get_leaves_well_formed}
use Rattle.service_laws.proofs.cells.cell_pools_stay_well_formed.Goals as goal

pub returns-clause-build : goal.returns-clause-build
returns-clause-build c = build_leaves_well_formed

pub returns-clause-get : goal.returns-clause-get
returns-clause-get c = get_leaves_well_formed

pub returns-clause-free : goal.returns-clause-free
returns-clause-free c = free_leaves_well_formed

pub returns-clause-delete : goal.returns-clause-delete
returns-clause-delete c = delete_leaves_well_formed
