use Rattle.free_queue.proofs.QueueLemmas.{places_stay, places_kept}
use Rattle.free_queue.proofs.laws.places_stay.Goals as goal

pub returns-clause-others : goal.returns-clause-others
returns-clause-others c = places_stay

pub returns-clause-kept : goal.returns-clause-kept
returns-clause-kept c = places_kept
