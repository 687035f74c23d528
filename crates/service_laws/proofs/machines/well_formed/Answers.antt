use Rattle.service_laws.proofs.Services.{service_leaves_well_formed}
use Rattle.service_laws.proofs.Reached.{statement_leaves_well_formed, reached_is_well_formed}
use Rattle.service_laws.proofs.machines.well_formed.Goals as goal

pub returns-clause-service : goal.returns-clause-service
returns-clause-service c = service_leaves_well_formed

pub returns-clause-statement : goal.returns-clause-statement
returns-clause-statement c = statement_leaves_well_formed

pub returns-clause-reached : goal.returns-clause-reached
returns-clause-reached c = reached_is_well_formed
