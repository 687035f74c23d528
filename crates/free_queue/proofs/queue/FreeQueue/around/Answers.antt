use Rattle.free_queue.proofs.queue.FreeQueue.around.Goals as goal

pub returns : goal.returns
returns c = c.around.ensures
