use Rattle.std.proofs.Common.{◌+◌, ◌==◌, if◌then◌else◌, Some, min, length, map, ap, ◌∙◌}
use Rattle.std.proofs.lemmas.List.{take_all}
use Rattle.explain_areas.specs.declared.cells.LineCell.{LineCell}
use Rattle.explain_standing.specs.Since.{asker, asker_ended}
use Rattle.explain_findings.specs.Left.{most, sum_bytes, sum_of, with_cell, with_cells}
use Rattle.explain_findings.specs.LeftTables.{left_kept}
use Rattle.explain_areas.specs.Cells.{used_cells}
use Rattle.explain_findings.proofs.LeftLists.{cells_more, sum_more}
use Rattle.explain_findings.proofs.left.LeftTable.add_cells.Goals as goal

pub loop-cell-preserved : goal.loop-cell-preserved
loop-cell-preserved c =
    let all = c.as_slice-cells.result.now in
    let i = c.loop-cell.cell-index in
    let below = c.loop-cell-test.true in
    let its = c.cell-item.result in
    let is = c.cell-item.is in
    let was = c.args.self.now in
    let sum = ap sum_of c.add_cell.ensures.sum ∙ c.loop-cell.invariant.sum in
    let bytes =
    c.saturating_add-self.ensures ∙ (λ j. min ((sum j).bytes + c.from.ensures j) most)
    ∙ sum_more (λ (c : LineCell). c.size) all i its was.sum.bytes below is in
    record {
      placed = record { within = c.in_ok-add_cell.ensures.placed.within; own = c.in_ok-add_cell.ensures.placed.own };
      left = λ settings xs carried line low.
          c.in_ok-add_cell.ensures.left settings xs carried line low
          ∙ ap (λ l. if its.line == line then Some (with_cell (asker settings xs line) (asker_ended settings xs line) its l) else l)
          (c.loop-cell.invariant.left settings xs carried line low)
          ∙ cells_more line (asker settings xs line) (asker_ended settings xs line) all i its (left_kept was line) below is;
      sum = λ j. record (sum j) { bytes = bytes j };
    }

pub returns-clause-left : goal.returns-clause-left
returns-clause-left c = λ settings xs carried.
    let all = c.as_slice-cells.result.now in
    let i = c.loop-cell.cell-index in
    let was = c.args.self.now in
    let are = c.as_slice-cells.ensures.value ∙ c.in_ok-used.ensures settings xs carried in
    let whole = take_all i all c.loop-cell-test.false ∙ are in (
      λ line low.
          c.loop-cell.invariant.left settings xs carried line low
          ∙ ap (λ ys. with_cells line (asker settings xs line) (asker_ended settings xs line) ys (left_kept was line)) whole,
      (λ j. record (c.loop-cell.invariant.sum j) { cells = length (are j) })
          ∙ (λ j. record (sum_of was.sum) { cells = length (used_cells settings xs); bytes = sum_bytes (map (λ (c : LineCell). c.size) (whole j)) was.sum.bytes }),
    )
