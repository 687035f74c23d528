use Rattle.std.proofs.Common.{length}
use Rattle.subpool_storage.specs.Order.{subpools_in_order}
use Rattle.storage_core.specs.Meaning.{state_in_place}
use Rattle.storage_core.specs.Walks.{IsSubpoolPlace, subpools_left}
use Rattle.explain_report.proofs.Remaining.{RowsRemain}
use Rattle.explain_report.proofs.forms.put_rows.Given as goal

abbrev pub invariant-loop-subpool : goal.invariant-loop-subpool
invariant-loop-subpool g l = record {
  place : IsSubpoolPlace l.storage l.place;
  rows : RowsRemain l.form l.storage (g.W.Write.contents l.fn.writer) (g.W.Write.contents l.writer) l.fn.gathered l.gathered
      (subpools_in_order (state_in_place l.storage).subpools) (subpools_left l.storage l.place);
}

abbrev pub decreases-loop-subpool : goal.decreases-loop-subpool
decreases-loop-subpool g l = length (subpools_left l.storage l.place)
