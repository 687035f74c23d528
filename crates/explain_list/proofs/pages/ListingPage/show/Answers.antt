use Rattle.explain_list.proofs.pages.ListingPage.show.Goals as goal

pub returns-clause-page : goal.returns-clause-page
returns-clause-page c = λ lines. record {
  lines = record { each = lines.each; current = lines.current; before = lines.before };
  marks = c.fault_of-self.ensures.own;
  head = c.fault_of-self.ensures.head;
  on = c.fault_of-self.ensures.on;
  lacks = c.fault_of-self.ensures.lacks;
}
