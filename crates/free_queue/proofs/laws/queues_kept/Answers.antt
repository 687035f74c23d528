use Rattle.free_queue.proofs.QueueLemmas.{queues_kept}
use Rattle.free_queue.proofs.laws.queues_kept.Goals as goal

pub returns : goal.returns
returns c = queues_kept
