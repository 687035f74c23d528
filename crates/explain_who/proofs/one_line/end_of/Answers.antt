use Rattle.std.proofs.Common.{sym}
use Rattle.explain_who.specs.OneLine.{ends_line}
use Rattle.explain_who.proofs.FirstPlace.{place_first, place_none}
use Rattle.explain_who.proofs.one_line.end_of.Goals as goal

pub returns-in-Some : goal.returns-in-Some
returns-in-Some c = place_first ends_line c.args.first.now c.in-Some.end (sym c.in-Some.ensures)

pub returns-in-None : goal.returns-in-None
returns-in-None c = place_none ends_line c.args.first.now (sym c.in-None.ensures)
