use Rattle.free_queue.specs.FreeQueue.{IsFreeQueue}
use Rattle.tests_lower.proofs.free_areas.turn_all.Given as goal

abbrev pub invariant-loop-start : goal.invariant-loop-start
invariant-loop-start g l = IsFreeQueue l.elements l.queue
