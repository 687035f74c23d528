use Rattle.std.proofs.Common.{◌≡◌, ◌≤◌, ◌∙◌, ◌++◌, ◌∷◌, [], List, length, ap, sym, subst}
use Rattle.explain_faults.specs.declared.lines.SourceLine.{SourceLine}
use Rattle.explain_list.specs.Pages.{open_of}
use Rattle.explain_list.proofs.Marked.{one_more, open_none}
use Rattle.explain_list.proofs.pages.ListingPage.keep.Goals as goal

pub returns-clause-lines : goal.returns-clause-lines
returns-clause-lines c = λ script at h.
    let hidden = c.hide.ensures.lines script h in
    record {
      each = one_more script c.hide.new.self.lines.lines.items c.push.new.self.lines.items c.args.line c.push.ensures.some at hidden.each;
      current = at;
      before = hidden.current;
    }

pub returns-clause-whole : goal.returns-clause-whole
returns-clause-whole c = λ room.
    let same : c.hide.new.self.lines.lines.items ≡ open_of c.args.self.now = sym (open_none c.hide.new.self c.hide.ensures.last) ∙ c.hide.ensures.open in
    c.push.ensures.whole (subst (λ (ls : List SourceLine). length ls ≤ 9) (sym same) room) ∙ ap (λ ls. ls ++ c.args.line ∷ []) same
