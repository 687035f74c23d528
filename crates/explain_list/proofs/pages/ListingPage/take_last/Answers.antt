use Rattle.std.proofs.Common.{◌≡◌, ◌∙◌, true, false, inl, inr, sym, subst}
use Rattle.explain_list.specs.Groups.{IsRoleBy}
use Rattle.explain_list.specs.Pages.{IsPage, KeepsLine, brought_told, stand_at_end}
use Rattle.explain_list.proofs.Marked.{open_none, open_stands, plain_page, whole_of}
use Rattle.explain_list.proofs.pages.ListingPage.take_last.Goals as goal
use Rattle.explain_list.proofs.pages.ListingPage.take_last.Goals.{then-is_some, else-is_some}

pub returns-then-line-script : goal.returns-then-line-script
returns-then-line-script c = record {
  page = λ at lines. plain_page c.args.script.now _ c.hide.new.self (c.hide.ensures.lines c.args.script.now lines) c.hide.ensures.fault c.hide.ensures.last;
  whole = λ room. inl (c.if-line-script.true, whole_of c.hide.new.self ∙ sym (open_none c.hide.new.self c.hide.ensures.last) ∙ c.hide.ensures.open);
  keeps = inl (c.if-line-script.true, c.hide.ensures.last, c.hide.ensures.open, c.hide.ensures.current);
}

pub returns : goal.returns
returns c = record {
  page = λ at lines. subst (λ kind. IsPage c.args.script.now kind c.take.new.self) c.brought_by-brought.ensures.fault (c.take.ensures.page at lines);
  whole = λ room. inr (c.if-line-script.false, c.take.ensures.whole room);
  keeps =
      let b = c.brought_by-brought.ensures.its in
      let after : c.if-is_some.after ≡ stand_at_end c.args.ending.now.open_statement = elim c.if-is_some.branch [
        | then-is_some w ↦ w.after-is ∙ open_stands c.args.ending.now.open_statement true (sym c.is_some.ensures ∙ w.if-is_some.true)
        | else-is_some w ↦ w.after-is ∙ open_stands c.args.ending.now.open_statement false (sym c.is_some.ensures ∙ w.if-is_some.false)
      ] in
      inr (
        c.if-line-script.false,
        record {
          its = c.role_of.result;
          own = subst (λ s. IsRoleBy c.args.before s (brought_told c.args.ending.now.last) c.role_of.result) after
              (subst (λ x. IsRoleBy c.args.before c.if-is_some.after x c.role_of.result) b c.role_of.ensures);
          kept = subst (λ x. KeepsLine c.args.self.now c.take.new.self c.args.line c.role_of.result x) b c.take.ensures.keeps;
        },
      );
}
