use Rattle.vsm_model.specs.Areas.{Fresh}
use Rattle.explain_reasons.specs.ToldPlaces.{found_text}
use Rattle.explain_reasons.proofs.Endings.{some_both}
use Rattle.explain_reasons.proofs.sides.put_fresh.Goals as goal

pub returns-in-Some-clause-some : goal.returns-in-Some-clause-some
returns-in-Some-clause-some g c =
    some_both (g.W.Write.contents c.args.writer.now) (g.W.Write.contents c.put_wanted.new.writer) (g.W.Write.contents c.put_run.new.writer)
    c.args.gathered.now c.put_wanted.new.gathered c.put_run.new.gathered c.put_wanted.ensures (found_text (Fresh c.in-Some.page), c.put_run.ensures)

pub returns-in-None-clause-some : goal.returns-in-None-clause-some
returns-in-None-clause-some g c =
    some_both (g.W.Write.contents c.args.writer.now) (g.W.Write.contents c.put_wanted.new.writer) (g.W.Write.contents c.put_pieces.new.writer)
    c.args.gathered.now c.put_wanted.new.gathered c.put_pieces.new.gathered c.put_wanted.ensures c.put_pieces.ensures.some
