use Rattle.std.proofs.Common.{sym}
use Rattle.explain_who.specs.OneLine.{is_feed}
use Rattle.explain_who.proofs.FirstPlace.{place_first, place_none}
use Rattle.explain_who.proofs.one_line.feed_of.Goals as goal

pub returns-in-Some-clause-place : goal.returns-in-Some-clause-place
returns-in-Some-clause-place c = place_first is_feed c.args.begins.now c.in-Some.end (sym c.in-Some.ensures)

pub returns-in-None-clause-place : goal.returns-in-None-clause-place
returns-in-None-clause-place c = place_none is_feed c.args.begins.now (sym c.in-None.ensures)
