use Rattle.std.proofs.Common.{flat_map, take}
use Rattle.text_output.specs.Writing.{Puts}
use Rattle.explain_areas.specs.Keeps.{page_in, page_of}
use Rattle.explain_areas.proofs.keeps.put_pages.Given as goal

abbrev pub invariant-loop-page : goal.invariant-loop-page
invariant-loop-page g l =
    Puts (g.W.Write.contents l.fn.writer) (g.W.Write.contents l.writer) l.fn.gathered l.gathered
    (flat_map (λ p. page_in l.form (page_of p)) (take l.page-index l.pages))
