use Rattle.descriptor_queue.specs.Extents.{IsPlace}
use Rattle.tests_lower.proofs.runs_of_pages.first_three.Given as goal

abbrev pub invariant-loop-i : goal.invariant-loop-i
invariant-loop-i l = IsPlace l.elements l.extents l.place
