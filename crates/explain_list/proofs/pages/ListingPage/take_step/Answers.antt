use Rattle.std.proofs.Common.{subst, sym}
use Rattle.explain_list.specs.Pages.{IsPage}
use Rattle.explain_list.specs.Rows.{IsLineAt}
use Rattle.explain_list.proofs.pages.ListingPage.take_step.Goals as goal

pub returns-clause-page : goal.returns-clause-page
returns-clause-page c = λ at lines.
    subst (λ kind. IsPage c.args.script.now kind c.take.new.self) c.brought_by-brought.ensures.fault
    (c.take.ensures.page (subst (λ e. IsLineAt c.args.script.now (record { number = c.args.number; start = c.args.step.now.start; end = e })) (sym c.saturating_sub.ensures) at) lines)
