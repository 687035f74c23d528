use Rattle.std.proofs.Common.{◌*◌, None, ap, ◌∙◌}
use Rattle.vsm_model.specs.Names.{NamedState}
use Rattle.explain_areas.specs.Rows.{pool_of}
use Rattle.explain_areas.proofs.listed.area_row.Goals as goal

pub returns : goal.returns
returns c = λ settings xs carried.
    let area = c.args.area.now in
    let asked = c.asker_of-asker.ensures settings xs carried in
    let pool = c.pool_of.ensures ∙ ap (λ s. pool_of s area) (c.storage.ensures.state ∙ ap (λ (k : NamedState). k.storage) carried.present) in
    λ i. record {
      line = area.line;
      bytes = 8 * c.from.ensures i;
      address = c.shown_address.ensures i;
      subpool = area.subpool;
      cell_of = None;
      extent_of = pool i;
      asked_by = asked.0 i;
      ended = asked.1 i;
    }
