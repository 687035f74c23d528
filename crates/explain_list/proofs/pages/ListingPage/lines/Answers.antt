use Rattle.std.proofs.Common.{◌∙◌, sym}
use Rattle.explain_list.proofs.Marked.{shown_none, shown_some}
use Rattle.explain_list.proofs.pages.ListingPage.lines.Goals as goal

pub returns-in-Some : goal.returns-in-Some
returns-in-Some c = c.as_slice.ensures.value ∙ sym (shown_some c.args.self.now _ c.in-Some.is)

pub returns-in-None : goal.returns-in-None
returns-in-None c = sym (shown_none c.args.self.now c.in-None.is)
