use Rattle.vsm_model.specs.Areas.{Inside}
use Rattle.explain_reasons.specs.ToldPlaces.{found_text}
use Rattle.explain_reasons.proofs.Endings.{some_both}
use Rattle.explain_reasons.proofs.sides.put_inside.Goals as goal

pub returns-in-Some-clause-some : goal.returns-in-Some-clause-some
returns-in-Some-clause-some g c =
    some_both (g.W.Write.contents c.args.writer.now) (g.W.Write.contents c.put_free_areas.new.writer) (g.W.Write.contents c.put_fit.new.writer)
    c.args.gathered.now c.put_free_areas.new.gathered c.put_fit.new.gathered c.put_free_areas.ensures (found_text (Inside c.in-Some.doubleword), c.put_fit.ensures)

pub returns-in-None-clause-some : goal.returns-in-None-clause-some
returns-in-None-clause-some g c =
    some_both (g.W.Write.contents c.args.writer.now) (g.W.Write.contents c.put_free_areas.new.writer) (g.W.Write.contents c.put_no_fit.new.writer)
    c.args.gathered.now c.put_free_areas.new.gathered c.put_no_fit.new.gathered c.put_free_areas.ensures c.put_no_fit.ensures
