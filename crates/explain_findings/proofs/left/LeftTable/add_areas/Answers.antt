use Rattle.std.proofs.Common.{◌+◌, ◌*◌, ◌==◌, if◌then◌else◌, Some, min, get_or, length, map, ap, ◌∙◌}
use Rattle.std.proofs.lemmas.List.{get_or_default, take_all}
use Rattle.explain_areas.specs.declared.parts.LineArea.{LineArea}
use Rattle.explain_standing.specs.Since.{asker, asker_ended}
use Rattle.explain_findings.specs.Left.{bytes_of, most, obtained_areas, sum_bytes, sum_of, with_area, with_areas}
use Rattle.explain_findings.specs.LeftTables.{left_kept}
use Rattle.explain_findings.proofs.LeftLists.{areas_more, sum_more}
use Rattle.explain_findings.proofs.left.LeftTable.add_areas.Goals as goal

pub loop-area-preserved : goal.loop-area-preserved
loop-area-preserved c =
    let all = c.as_slice-areas.result.now in
    let i = c.loop-area.area-index in
    let below = c.loop-area-test.true in
    let none : LineArea = record { subpool = record { number = 0; owner = 0 }; start = 0; count = 0; line = 0 } in
    let its = get_or all i none in
    let is = get_or_default all i none its below in
    let was = c.args.self.now in
    let sum = ap sum_of c.add_area.ensures.sum ∙ c.loop-area.invariant.sum in
    let bytes =
    c.saturating_add-self.ensures ∙ (λ j. min ((sum j).bytes + 8 * c.from.ensures j) most)
    ∙ sum_more bytes_of all i its was.sum.bytes below is in
    record {
      placed = record { within = c.in_ok-add_area.ensures.placed.within; own = c.in_ok-add_area.ensures.placed.own };
      left = λ settings xs carried line low.
          c.in_ok-add_area.ensures.left settings xs carried line low
          ∙ ap (λ l. if its.line == line then Some (with_area (asker settings xs line) (asker_ended settings xs line) its l) else l)
          (c.loop-area.invariant.left settings xs carried line low)
          ∙ areas_more line (asker settings xs line) (asker_ended settings xs line) all i its (left_kept was line) below is;
      sum = λ j. record (sum j) { bytes = bytes j };
    }

pub returns-clause-left : goal.returns-clause-left
returns-clause-left c = λ settings xs carried.
    let all = c.as_slice-areas.result.now in
    let i = c.loop-area.area-index in
    let was = c.args.self.now in
    let are = c.as_slice-areas.ensures.value ∙ c.in_ok-obtained.ensures settings xs carried in
    let whole = take_all i all c.loop-area-test.false ∙ are in (
      λ line low.
          c.loop-area.invariant.left settings xs carried line low
          ∙ ap (λ ys. with_areas line (asker settings xs line) (asker_ended settings xs line) ys (left_kept was line)) whole,
      (λ j. record (c.loop-area.invariant.sum j) { areas = length (are j) })
          ∙ (λ j. record (sum_of was.sum) { areas = length (obtained_areas settings xs); bytes = sum_bytes (map bytes_of (whole j)) was.sum.bytes }),
    )
