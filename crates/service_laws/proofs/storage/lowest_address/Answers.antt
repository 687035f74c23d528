use Rattle.service_laws.proofs.Grants.{obtain_takes_the_lowest_address}
use Rattle.service_laws.proofs.storage.lowest_address.Goals as goal

pub returns : goal.returns
returns c = obtain_takes_the_lowest_address
