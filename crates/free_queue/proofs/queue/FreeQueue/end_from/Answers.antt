use Rattle.free_queue.proofs.queue.FreeQueue.end_from.Goals as goal

pub returns : goal.returns
returns c = c.end_from.ensures
