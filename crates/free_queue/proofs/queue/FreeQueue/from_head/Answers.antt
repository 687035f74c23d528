use Rattle.std.proofs.Common.{ap}
use Rattle.free_queue.proofs.queue.FreeQueue.from_head.Goals as goal

pub returns : goal.returns
returns c = ap (λ set. record { set = set }) c.from_head.ensures
