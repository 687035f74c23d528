use Rattle.std.proofs.Common.{◌++◌, get_or, ap, ◌∙◌}
use Rattle.std.proofs.lemmas.List.{get_or_default}
use Rattle.explain_areas.specs.Rows.{area_rows}
use Rattle.explain_areas.specs.declared.parts.LineArea.{LineArea}
use Rattle.explain_areas.proofs.MoreRows.{brought_more}
use Rattle.explain_areas.proofs.listed.add_areas.Goals as goal

pub loop-area-preserved : goal.loop-area-preserved
loop-area-preserved c = λ settings xs carried are.
    let all = c.args.areas.now in
    let i = c.loop-area.area-index in
    let below = c.loop-area-test.true in
    let none : LineArea = record { subpool = record { number = 0; owner = 0 }; start = 0; count = 0; line = 0 } in
    let its = get_or all i none in
    let rows = area_rows settings xs c.args.since in
    c.in_ok-add_area.ensures settings xs carried are ∙ ap (λ ys. ys ++ rows its) (c.loop-area.invariant settings xs carried are)
    ∙ brought_more rows c.args.rows.now.items all i its below (get_or_default all i none its below)
