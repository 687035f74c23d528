-- That elements hold a queue of free areas has at most one proof.
use Rattle.vsm_elements.specs.Store.{Store}
use Rattle.run_set.specs.Props.{IsRunSet-prop}
use Rattle.free_queue.specs.declared.queue.FreeQueue.{FreeQueue}
use Rattle.free_queue.specs.FreeQueue.{IsFreeQueue}

pub IsFreeQueue-prop : (s : Store) (q : FreeQueue) → IsProp (IsFreeQueue s q)
IsFreeQueue-prop s q = IsRunSet-prop s q.set
