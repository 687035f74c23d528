use Rattle.subpool_storage.proofs.PlaceStays.{places_stay}
use Rattle.subpool_storage.proofs.laws.places_stay.Goals as goal

pub returns : goal.returns
returns c = places_stay
