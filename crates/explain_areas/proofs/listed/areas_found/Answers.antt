use Rattle.std.proofs.Common.{if◌then◌else◌, [], flat_map, ap, ◌∙◌}
use Rattle.explain_areas.specs.Keeps.{pages_kept}
use Rattle.explain_areas.specs.Rows.{area_rows}
use Rattle.explain_areas.proofs.listed.areas_found.Goals as goal

pub returns : goal.returns
returns c = λ settings xs carried.
    let listed = c.in_ok-areas.ensures settings xs carried in (
      c.in_ok-pages.ensures ∙ ap (λ areas. if c.args.keeps then pages_kept areas else []) (c.as_slice.ensures.value ∙ listed),
      c.in_ok-rows.ensures settings xs carried ∙ ap (flat_map (area_rows settings xs c.args.since)) (c.as_slice-2.ensures.value ∙ listed),
    )
