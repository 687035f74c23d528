use Rattle.std.proofs.Common.{◌≡◌, ◌∙◌, true, false, refl, sym}
use Rattle.explain_list.specs.Pages.{ends_lost}
use Rattle.explain_list.proofs.Marked.{ends_of}
use Rattle.explain_list.proofs.pages.ListingPage.lost.Goals as goal

pub returns-then-is_lost : goal.returns-then-is_lost
returns-then-is_lost c = record {
  line = c.line_before.ensures.line;
  last = λ at precedes.
      let ends : ends_lost c.args.self.now.last ≡ true =
      sym (ends_of c.args.self.now c.role.result c.args.index at c.role.ensures.last) ∙ sym c.is_lost.ensures ∙ c.if-is_lost.true in
      let before = precedes ends in
      c.line_before.ensures.found before.0 before.1 before.2 ∙ sym ends;
  other = λ less. (let bad : true ≡ false = sym c.if-is_lost.true ∙ c.is_lost.ensures ∙ c.role.ensures.other less in cc);
}

pub returns-else-is_lost : goal.returns-else-is_lost
returns-else-is_lost c = record {
  line = λ script lines. tt;
  last = λ at precedes. sym c.if-is_lost.false ∙ c.is_lost.ensures ∙ ends_of c.args.self.now c.role.result c.args.index at c.role.ensures.last;
  other = λ less. refl;
}
