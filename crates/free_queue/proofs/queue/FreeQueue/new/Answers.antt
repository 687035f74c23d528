use Rattle.std.proofs.Common.{ap}
use Rattle.free_queue.proofs.queue.FreeQueue.new.Goals as goal

pub returns-clause-queue : goal.returns-clause-queue
returns-clause-queue c = assumption

pub returns-clause-empty : goal.returns-clause-empty
returns-clause-empty c = assumption

pub returns-clause-owned : goal.returns-clause-owned
returns-clause-owned c = assumption

pub returns-clause-head : goal.returns-clause-head
returns-clause-head c = ap (λ set. record { set = set }) assumption
