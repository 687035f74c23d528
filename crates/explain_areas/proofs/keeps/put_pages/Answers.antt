use Rattle.std.proofs.Common.{sym, ◌∙◌, subst, flat_map, ap}
use Rattle.std.proofs.lemmas.List.{take_all}
use Rattle.std.proofs.lemmas.List.Folds.{flat_map-map}
use Rattle.text_output.specs.Writing.{Puts}
use Rattle.explain_areas.specs.Keeps.{page_in, page_of}
use Rattle.explain_areas.proofs.keeps.put_pages.Goals as goal

pub returns : goal.returns
returns g c =
    let form = c.args.form in
    let pages = c.args.pages.now in
    subst (Puts (g.W.Write.contents c.args.writer.now) (g.W.Write.contents c.loop-page.writer) c.args.gathered.now c.loop-page.gathered)
    (ap (flat_map (λ p. page_in form (page_of p))) (take_all c.loop-page.page-index pages c.loop-page-test.false) ∙ sym (flat_map-map (page_in form) page_of pages))
    c.loop-page.invariant
