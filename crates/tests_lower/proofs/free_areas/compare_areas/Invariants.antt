use Rattle.free_queue.specs.FreeQueue.{IsPlace}
use Rattle.tests_lower.proofs.free_areas.compare_areas.Given as goal

abbrev pub invariant-loop : goal.invariant-loop
invariant-loop g l = IsPlace l.elements l.queue l.place
