use Rattle.free_queue.proofs.queue.FreeQueue.longest.Goals as goal

pub returns : goal.returns
returns c = c.longest.ensures
