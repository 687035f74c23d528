use Rattle.std.proofs.Common.{ℕ, Some, subst, ap, ◌∙◌}
use Rattle.vsm_model.specs.declared.services.Obtain.{Obtain}
use Rattle.explain_reasons.specs.ToldPlaces.{TellsArea}
use Rattle.explain_reasons.proofs.areas.put_extent_area.Goals as goal

pub returns : goal.returns
returns g c =
    let numbered = ap (λ (o : Obtain). o.number) c.extent_asked-asked.ensures ∙ c.from-number.ensures in
    subst (λ (n : ℕ). TellsArea c.args.storage.now n (Some c.args.built) (g.W.Write.contents c.args.writer.now) (g.W.Write.contents c.put_area.new.writer)
    c.args.gathered.now c.put_area.new.gathered) numbered c.put_area.ensures.area
