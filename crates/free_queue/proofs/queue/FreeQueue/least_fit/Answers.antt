use Rattle.free_queue.proofs.queue.FreeQueue.least_fit.Goals as goal

pub returns-clause-none : goal.returns-clause-none
returns-clause-none c = c.least_fit.ensures.none

pub returns-clause-least : goal.returns-clause-least
returns-clause-least c = c.least_fit.ensures.least
