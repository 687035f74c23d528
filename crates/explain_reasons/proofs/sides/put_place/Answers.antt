use Rattle.std.proofs.Common.{sym, ap, subst}
use Rattle.explain_reasons.specs.ToldPlaces.{found_in, PutsEnding}
use Rattle.explain_reasons.proofs.Endings.{ending_none, some_none}
use Rattle.explain_reasons.proofs.sides.put_place.Goals as goal

pub returns-in-Some : goal.returns-in-Some
returns-in-Some g c =
    subst (PutsEnding (g.W.Write.contents c.args.writer.now) (g.W.Write.contents c.put_sides.new.writer) c.args.gathered.now c.put_sides.new.gathered)
    (ap found_in (sym c.in-Some.is)) c.put_sides.ensures

pub returns-in-None : goal.returns-in-None
returns-in-None g c =
    let now = g.W.Write.contents c.args.writer.now in
    subst (PutsEnding now now c.args.gathered.now c.args.gathered.now) (ap found_in (sym c.in-None.is))
    (ending_none now now c.args.gathered.now c.args.gathered.now (some_none now c.args.gathered.now))
