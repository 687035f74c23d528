use Rattle.descriptor_queue.specs.Extents.{IsExtents}
use Rattle.tests_lower.proofs.runs_of_pages.join.Given as goal

abbrev pub invariant-loop-page : goal.invariant-loop-page
invariant-loop-page g l = IsExtents l.elements l.extents
