use Rattle.std.proofs.Common.{[], ◌++◌, Option, subst}
use Rattle.std.proofs.lemmas.List.{append-nil}
use Rattle.macro_operands.specs.declared.faults.FaultKind.{FaultKind}
use Rattle.explain_faults.specs.declared.carets.Caret.{Caret}
use Rattle.explain_list.specs.Pages.{fault_at}
use Rattle.explain_list.specs.Rows.{marks_on}
use Rattle.explain_check.specs.Findings.{found_to, if_on}
use Rattle.explain_check.specs.Lines.{PutsChecks, manner_of}
use Rattle.explain_check.proofs.Said.{checks_each}
use Rattle.explain_check.proofs.page_checks.put_line_checks.Goals as goal

pub returns : goal.returns
returns g c =
    let shown = c.args.shown.now in
    let name = manner_of shown.manner in
    let line = c.args.line.now in
    let marks = marks_on line (fault_at shown.page.now.fault c.args.index) in
    let finds = if_on shown.place.line c.args.index (found_to c.args.answered.now) in
    let fault = c.put_fault_check in
    let its = subst
    (λ (f : Option (Caret × FaultKind)). PutsChecks name (marks_on line f) [] [] (g.W.Write.contents c.put_warning_checks.new.writer) (g.W.Write.contents fault.new.writer) c.put_warning_checks.new.gathered fault.new.gathered)
    c.fault_on.ensures fault.ensures in
    let first = checks_each name [] marks [] [] [] [] _ _ _ _ _ _ c.put_loss_check.ensures
    (checks_each name [] marks [] [] [] [] _ _ _ _ _ _ c.put_warning_checks.ensures its) in
    let last = checks_each name [] [] [] [] finds [] _ _ _ _ _ _ c.put_found_on.ensures c.put_warning_checks-2.ensures in
    let all = checks_each name marks [] [] [] [] (finds ++ []) _ _ _ _ _ _ first last in
    subst (λ ms. PutsChecks name ms [] finds (g.W.Write.contents c.args.writer.now) (g.W.Write.contents c.put_warning_checks-2.new.writer) c.args.gathered.now c.put_warning_checks-2.new.gathered)
    (append-nil marks)
    (subst (λ fs. PutsChecks name (marks ++ []) [] fs (g.W.Write.contents c.args.writer.now) (g.W.Write.contents c.put_warning_checks-2.new.writer) c.args.gathered.now c.put_warning_checks-2.new.gathered)
    (append-nil finds) all)
