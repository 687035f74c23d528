use Rattle.std.proofs.Common.{Some, sym, ap, ◌∙◌, arith}
use Rattle.explain_standing.specs.Since.{asker, asker_ended}
use Rattle.explain_findings.specs.Left.{with_area}
use Rattle.explain_findings.specs.LeftTables.{left_kept}
use Rattle.explain_findings.proofs.LeftPlaces.{changed, is_kept, on_its_line}
use Rattle.explain_findings.proofs.left.LeftTable.add_area.Goals as goal

pub returns-in-Some-clause-left : goal.returns-in-Some-clause-left
returns-in-Some-clause-left c = λ settings xs carried n low.
    let t = c.args.self.now in
    let area = c.args.area.now in
    let place = c.in-Some.place in
    let was = c.index_mut.result.now in
    let at = sym c.number.ensures ∙ c.in-Some.is in
    let kept = is_kept t c.requires area.line place (omega arith) at was ∙ ap Some (sym c.index_mut.ensures.value) in
    changed t c.requires area.line place (omega arith) at c.add_to.new.left n low
    ∙ on_its_line area.line n (Some c.add_to.new.left) (Some (with_area (asker settings xs n) (asker_ended settings xs n) area (left_kept t n))) (left_kept t n)
    (λ is.
    ap Some c.add_to.ensures
    ∙ ap (λ l. Some (with_area (asker settings xs n) (asker_ended settings xs n) area l)) (sym (ap (left_kept t) (sym is) ∙ kept)))
