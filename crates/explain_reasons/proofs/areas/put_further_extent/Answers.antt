use Rattle.std.proofs.Common.{sym, ap}
use Rattle.text_output.proofs.Gathering.{puts_both, puts_none}
use Rattle.explain_reasons.specs.Texts.{further_text, no_cell_text}
use Rattle.explain_reasons.specs.ToldPlaces.{further_extent}
use Rattle.explain_text.proofs.Alike.{alike}
use Rattle.explain_reasons.proofs.areas.put_further_extent.Goals as goal

pub returns-in-Some : goal.returns-in-Some
returns-in-Some g c =
    let built = c.in-Some.built in
    alike _ _ _ _ _ _ (ap further_extent (sym c.in-Some.is))
    (puts_both (g.W.Write.contents c.args.writer.now) (g.W.Write.contents c.put_none_free.new.writer) (g.W.Write.contents c.put_further.new.writer)
    c.args.gathered.now c.put_none_free.new.gathered c.put_further.new.gathered no_cell_text (further_text built.secondary built.size)
    c.put_none_free.ensures c.put_further.ensures)

pub returns-in-None : goal.returns-in-None
returns-in-None g c =
    alike _ _ _ _ _ _ (ap further_extent (sym c.in-None.is)) (puts_none (g.W.Write.contents c.args.writer.now) c.args.gathered.now)
