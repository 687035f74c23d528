use Rattle.service_laws.proofs.Returns.{release_gives_taken_storage_back}
use Rattle.service_laws.proofs.Wholes.{whole_release_empties_the_subpool}
use Rattle.service_laws.proofs.storage.given_back.Goals as goal

pub returns-clause-area : goal.returns-clause-area
returns-clause-area c = release_gives_taken_storage_back

pub returns-clause-whole : goal.returns-clause-whole
returns-clause-whole c = whole_release_empties_the_subpool
