use Rattle.std.proofs.Common.{None, subst}
use Rattle.vsm_model.specs.declared.services.Obtain.{Obtain}
use Rattle.explain_reasons.specs.ToldPlaces.{TellsArea}
use Rattle.explain_reasons.proofs.areas.put_first_extent.Goals as goal

pub returns : goal.returns
returns g c =
    subst (λ (o : Obtain). TellsArea c.args.storage.now o.number None (g.W.Write.contents c.args.writer.now) (g.W.Write.contents c.put_area.new.writer)
    c.args.gathered.now c.put_area.new.gathered) c.extent_asked-asked.ensures c.put_area.ensures.area
