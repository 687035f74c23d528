use Rattle.std.proofs.Common.{length}
use Rattle.storage_core.specs.Walks.{IsSubpoolPlace, subpools_left}
use Rattle.explain_text.specs.Pieces.{PutsSome}
use Rattle.explain_reasons.proofs.task_ends.put_subpools_end.Given as goal

abbrev pub invariant-loop-subpool : goal.invariant-loop-subpool
invariant-loop-subpool g l = record {
  place : IsSubpoolPlace l.storage l.place;
  some : PutsSome (g.W.Write.contents l.fn.writer) (g.W.Write.contents l.writer) l.fn.gathered l.gathered;
}

abbrev pub decreases-loop-subpool : goal.decreases-loop-subpool
decreases-loop-subpool g l = length (subpools_left l.storage l.place)
