use Rattle.free_queue.proofs.queue.FreeQueue.discard.Goals as goal

pub returns-clause-owned : goal.returns-clause-owned
returns-clause-owned c = c.discard.ensures.owned
