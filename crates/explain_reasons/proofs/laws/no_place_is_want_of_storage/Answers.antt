use Rattle.explain_reasons.proofs.NoPlace.{no_place_is_want_of_storage}
use Rattle.explain_reasons.proofs.laws.no_place_is_want_of_storage.Goals as goal

pub returns : goal.returns
returns c = no_place_is_want_of_storage
