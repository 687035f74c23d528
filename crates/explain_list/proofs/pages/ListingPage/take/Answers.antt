use Rattle.std.proofs.Common.{◌≡◌, ◌≤◌, ◌∙◌, true, false, List, length, ap, sym, subst, arith}
use Rattle.std.proofs.lemmas.List.{length_push}
use Rattle.explain_list.specs.Pages.{open_of}
use Rattle.explain_faults.specs.declared.lines.OpenLines.{OpenLines}
use Rattle.explain_faults.specs.declared.lines.SourceLine.{SourceLine}
use Rattle.explain_list.proofs.Marked.{open_none, open_some, plain_page, whole_of}
use Rattle.explain_list.proofs.pages.ListingPage.take.Goals as goal

pub returns-then-shows : goal.returns-then-shows
returns-then-shows c = record {
  page = λ at lines. c.show.ensures.page (c.keep.ensures.lines c.args.script.now at lines);
  whole = λ room. whole_of c.show.new.self ∙ ap (λ (ls : OpenLines). ls.lines.items) c.show.ensures.lines ∙ c.keep.ensures.whole room;
  room = subst (λ (ls : List SourceLine). length ls ≤ 9) (sym (open_some c.show.new.self _ c.show.ensures.last)) (omega arith);
  keeps = record {
    whole = λ room. ap (λ (ls : OpenLines). ls.lines.items) c.show.ensures.lines ∙ c.keep.ensures.whole room;
    shows = λ ends. c.show.ensures.last;
    goes_on = λ room ends.
        let few : length c.keep.new.self.lines.lines.items ≤ 9 =
        subst (λ (ls : List SourceLine). length ls ≤ 9) (sym (c.keep.ensures.whole (omega (arith, room))))
        (omega (arith, room, length_push (open_of c.args.self.now) c.args.line)) in
        let bad : true ≡ false = sym c.if-shows.true ∙ c.shows.ensures.goes_on few ends in cc;
    current = c.show.ensures.current ∙ c.keep.ensures.current;
    before = c.show.ensures.before ∙ c.keep.ensures.before;
  };
}

pub returns-else-shows : goal.returns-else-shows
returns-else-shows c = record {
  page = λ at lines. plain_page c.args.script.now _ c.keep.new.self (c.keep.ensures.lines c.args.script.now at lines) c.keep.ensures.fault c.keep.ensures.last;
  whole = λ room. whole_of c.keep.new.self ∙ c.keep.ensures.whole room;
  room = subst (λ (ls : List SourceLine). length ls ≤ 9) (sym (open_none c.keep.new.self c.keep.ensures.last)) (c.shows.ensures.room c.if-shows.false);
  keeps = record {
    whole = c.keep.ensures.whole;
    shows = λ ends. (let bad : false ≡ true = sym c.if-shows.false ∙ c.shows.ensures.ends ends in cc);
    goes_on = λ room ends. c.keep.ensures.last;
    current = c.keep.ensures.current;
    before = c.keep.ensures.before;
  };
}
