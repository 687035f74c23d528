use Rattle.service_laws.proofs.Grants.{obtain_grants_free_storage, answer_four_sets_register_15_alone}
use Rattle.service_laws.proofs.storage.granted.Goals as goal

pub returns-clause-granted : goal.returns-clause-granted
returns-clause-granted c = obtain_grants_free_storage

pub returns-clause-four : goal.returns-clause-four
returns-clause-four c = answer_four_sets_register_15_alone
