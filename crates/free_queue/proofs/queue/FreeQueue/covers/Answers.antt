use Rattle.free_queue.proofs.queue.FreeQueue.covers.Goals as goal

pub returns : goal.returns
returns c = c.covers.ensures
