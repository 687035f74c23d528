use Rattle.subpool_set.proofs.PlaceLemmas.{places_kept}
use Rattle.subpool_set.proofs.laws.places_kept.Goals as goal

pub returns : goal.returns
returns c = places_kept
