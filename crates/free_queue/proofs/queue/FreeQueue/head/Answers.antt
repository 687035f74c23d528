use Rattle.std.proofs.Common.{ap}
use Rattle.free_queue.proofs.queue.FreeQueue.head.Goals as goal

pub returns : goal.returns
returns c = ap (λ set. record { set = set }) c.head.ensures
