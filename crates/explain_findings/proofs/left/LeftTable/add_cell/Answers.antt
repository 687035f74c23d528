use Rattle.std.proofs.Common.{◌==◌, Some, sym, ap, ◌∙◌, arith}
use Rattle.explain_standing.specs.Since.{asker, asker_ended}
use Rattle.explain_findings.specs.Left.{with_cell}
use Rattle.explain_findings.specs.LeftTables.{left_kept}
use Rattle.explain_findings.proofs.LeftPlaces.{either_way, on_its_line, some_kept}
use Rattle.explain_findings.proofs.left.LeftTable.add_cell.Goals as goal

pub returns-in-Some-clause-left : goal.returns-in-Some-clause-left
returns-in-Some-clause-left c = λ settings xs carried n low.
    let t = c.args.self.now in
    let cell = c.args.cell.now in
    let its = some_kept t c.requires cell.line c.in-Some.field-0 (omega arith) (sym c.number.ensures ∙ c.in-Some.is) in
    either_way (cell.line == n) (left_kept t n)
    ∙ on_its_line cell.line n (left_kept t n) (Some (with_cell (asker settings xs n) (asker_ended settings xs n) cell (left_kept t n))) (left_kept t n)
    (λ is.
    let kept = ap (left_kept t) (sym is) ∙ its.1 in
    kept ∙ ap (λ o. Some (with_cell (asker settings xs n) (asker_ended settings xs n) cell o)) (sym kept))
