use Rattle.std.proofs.Common.{sym, ap, subst}
use Rattle.explain_reasons.specs.ToldPlaces.{found_text, option_place, PutsEnding}
use Rattle.explain_reasons.proofs.Endings.{ending_none, some_none}
use Rattle.explain_reasons.proofs.sides.put_second.Goals as goal

pub returns-in-Some : goal.returns-in-Some
returns-in-Some g c =
    subst (PutsEnding (g.W.Write.contents c.args.writer.now) (g.W.Write.contents c.put_side.new.writer) c.args.gathered.now c.put_side.new.gathered)
    (ap (λ r. found_text (option_place r)) (sym c.in-Some.is)) c.put_side.ensures.place

pub returns-in-None : goal.returns-in-None
returns-in-None g c =
    let now = g.W.Write.contents c.args.writer.now in
    subst (PutsEnding now now c.args.gathered.now c.args.gathered.now) (ap (λ r. found_text (option_place r)) (sym c.in-None.is))
    (ending_none now now c.args.gathered.now c.args.gathered.now (some_none now c.args.gathered.now))
