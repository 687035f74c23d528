use Rattle.descriptor_queue.proofs.PageLemmas.{extent_places_stay, extent_places_kept}
use Rattle.descriptor_queue.proofs.laws.extent_places_stay.Goals as goal

pub returns-clause-others : goal.returns-clause-others
returns-clause-others c = extent_places_stay

pub returns-clause-kept : goal.returns-clause-kept
returns-clause-kept c = extent_places_kept
