use Rattle.free_queue.proofs.queue.FreeQueue.next_area.Goals as goal

pub returns-clause-area : goal.returns-clause-area
returns-clause-area c = c.next_run.ensures.run

pub returns-clause-next : goal.returns-clause-next
returns-clause-next c = c.next_run.ensures.next
