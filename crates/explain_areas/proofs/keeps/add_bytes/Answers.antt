use Rattle.std.proofs.Common.{◌-◌, sym, ap, ◌∙◌, arith}
use Rattle.std.proofs.lemmas.Result.{on_ok_weaker}
use Rattle.explain_areas.specs.Keeps.{counted, is_last, page_of, turned, with_more}
use Rattle.explain_areas.proofs.Keeping.{more_at_end}
use Rattle.explain_areas.proofs.keeps.add_bytes.Goals as goal

pub returns-then-is_last : goal.returns-then-is_last
returns-then-is_last c =
    let a = c.args in
    let xs = a.pages.now.items in
    on_ok_weaker c.add_to.result (λ more others before.
    more_at_end a.line a.page a.bytes xs (c.len-last.result - 1) c.add_to.new.page c.index_mut.result.now others (omega (arith, a.pages.now.ok.0))
    (sym (c.is_last.ensures ∙ ap (λ ys. is_last a.page (turned ys)) c.as_slice.ensures.value) ∙ c.if-is_last.true)
    (more ∙ ap (λ p. counted (with_more a.line a.bytes (page_of p))) c.index_mut.ensures.value) before) c.add_to.ensures
