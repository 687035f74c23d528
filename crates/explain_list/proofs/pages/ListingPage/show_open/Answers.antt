use Rattle.std.proofs.Common.{◌∙◌, ap, sym, subst}
use Rattle.explain_faults.specs.declared.lines.OpenLines.{OpenLines}
use Rattle.explain_faults.specs.Roles.{role_in}
use Rattle.explain_faults.specs.declared.roles.Role.{Role}
use Rattle.explain_list.specs.Groups.{is_lost}
use Rattle.explain_list.specs.Pages.{IsPage, ends_lost}
use Rattle.explain_list.proofs.Marked.{open_none, shown_some}
use Rattle.explain_list.proofs.pages.ListingPage.show_open.Goals as goal
use Rattle.explain_list.proofs.pages.ListingPage.show_open.Goals.{then-as_slice-gt1, else-as_slice-gt1}

pub returns-after-as_slice-gt1 : goal.returns-after-as_slice-gt1
returns-after-as_slice-gt1 c = record {
  page = λ lines. subst (λ kind. IsPage c.args.script.now kind c.show.new.self) c.brought_by.ensures.fault (c.show.ensures.page (c.hide.ensures.lines c.args.script.now lines));
  whole = shown_some c.show.new.self _ c.show.ensures.last ∙ ap (λ (ls : OpenLines). ls.lines.items) c.show.ensures.lines
      ∙ sym (open_none c.hide.new.self c.hide.ensures.last) ∙ c.hide.ensures.open;
  carried = ap ends_lost c.show.ensures.last ∙ elim c.if-as_slice-gt1.branch [
    | then-as_slice-gt1 w ↦ ap (λ (r : Role). is_lost (role_in r)) w.last-is
    | else-as_slice-gt1 w ↦ ap (λ (r : Role). is_lost (role_in r)) w.last-is
  ];
}
