use Rattle.subpool_set.proofs.PlaceLemmas.{places_stay}
use Rattle.subpool_set.proofs.laws.places_stay.Goals as goal

pub returns : goal.returns
returns c = places_stay
