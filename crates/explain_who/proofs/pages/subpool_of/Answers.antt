use Rattle.std.proofs.Common.{sym, ◌∙◌}
use Rattle.storage_core.specs.Meaning.{settings_of, state_in_place}
use Rattle.explain_who.proofs.AssignedPages.{page_of}
use Rattle.explain_who.proofs.pages.subpool_of.Goals as goal

pub returns-then-has_page : goal.returns-then-has_page
returns-then-has_page c =
    let s = c.args.storage.now in
    page_of (settings_of s) (state_in_place s) s.held.sound c.in-Some.subpool c.args.page (sym c.has_page.ensures ∙ c.if-has_page.true)
