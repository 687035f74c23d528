use Rattle.service_laws.proofs.StorageFirstCausesFound.{obtain_is_refused_for_the_first_cause, release_is_refused_for_the_first_cause, whole_release_is_refused_for_the_first_cause, store_is_refused_for_the_first_cause}
use Rattle.service_laws.proofs.storage.refused_for_the_first_cause.Goals as goal

pub returns-clause-obtain : goal.returns-clause-obtain
returns-clause-obtain c = obtain_is_refused_for_the_first_cause

pub returns-clause-release : goal.returns-clause-release
returns-clause-release c = release_is_refused_for_the_first_cause

pub returns-clause-whole : goal.returns-clause-whole
returns-clause-whole c = whole_release_is_refused_for_the_first_cause

pub returns-clause-store : goal.returns-clause-store
returns-clause-store c = store_is_refused_for_the_first_cause
