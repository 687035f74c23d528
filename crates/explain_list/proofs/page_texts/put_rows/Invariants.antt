use Rattle.std.proofs.Common.{take, Option}
use Rattle.macro_operands.specs.declared.faults.FaultKind.{FaultKind}
use Rattle.explain_list.specs.Pages.{IsPage, IsWholePage, ends_lost, lost_by, marks_in}
use Rattle.explain_list.specs.Rows.{PutsRows}
use Rattle.explain_list.proofs.page_texts.put_rows.Given as goal

abbrev pub invariant-loop-index : goal.invariant-loop-index
invariant-loop-index g l =
    (kind : Option FaultKind) → IsPage l.script kind l.page → IsWholePage l.script kind l.page
    → PutsRows l.form l.script (take l.index l.lines) (take l.index (lost_by (ends_lost l.page.last) l.lines)) (marks_in (take l.index l.lines) l.page.fault) (g.W.Write.contents l.fn.writer) (g.W.Write.contents l.writer) l.fn.gathered l.gathered
