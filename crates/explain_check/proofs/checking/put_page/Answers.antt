use Rattle.std.proofs.Common.{◌∙◌, ap, subst}
use Rattle.macro_statements.specs.Requests.{asked_in}
use Rattle.explain_list.specs.Pages.{marks_in, shown_of}
use Rattle.explain_check.specs.Findings.{OnLine, found_by, is_wrong, name_told}
use Rattle.explain_check.specs.Lines.{PutsChecks, manner_of}
use Rattle.explain_check.proofs.checking.put_page.Goals as goal

pub returns : goal.returns
returns g c =
    let e = c.put_checks.ensures in
    let its = c.args.page.now in
    let named = name_told c.args.told.now (asked_in c.args.request.now) in
    record {
      puts = (
        e.0,
        e.1,
        subst (λ (here : OnLine). PutsChecks (manner_of c.args.source.now.manner) (marks_in (shown_of its) its.fault) e.0 (found_by named here) (g.W.Write.contents c.args.writer.now) (g.W.Write.contents c.put_checks.new.writer) c.args.gathered.now c.put_checks.new.gathered)
            c.found_told.ensures e.2,
      );
      wrong = c.is_wrong.ensures ∙ ap is_wrong c.found_told.ensures;
    }
