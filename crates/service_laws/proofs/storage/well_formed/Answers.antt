use Rattle.service_laws.proofs.Kept.{obtain_leaves_well_formed, release_leaves_well_formed, whole_release_leaves_well_formed, store_leaves_well_formed, one_name_too_many_is_given_no_address}
use Rattle.service_laws.proofs.storage.well_formed.Goals as goal

pub returns-clause-obtain : goal.returns-clause-obtain
returns-clause-obtain c = obtain_leaves_well_formed

pub returns-clause-release : goal.returns-clause-release
returns-clause-release c = release_leaves_well_formed

pub returns-clause-whole : goal.returns-clause-whole
returns-clause-whole c = whole_release_leaves_well_formed

pub returns-clause-store : goal.returns-clause-store
returns-clause-store c = store_leaves_well_formed

pub returns-clause-names : goal.returns-clause-names
returns-clause-names c = one_name_too_many_is_given_no_address
