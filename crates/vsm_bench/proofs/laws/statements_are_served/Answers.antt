use Rattle.vsm_bench.proofs.Served.{accepted_is_its_service, refused_has_its_cause}
use Rattle.vsm_bench.proofs.laws.statements_are_served.Goals as goal

pub returns-clause-accepted : goal.returns-clause-accepted
returns-clause-accepted c = accepted_is_its_service

pub returns-clause-refused : goal.returns-clause-refused
returns-clause-refused c = refused_has_its_cause
