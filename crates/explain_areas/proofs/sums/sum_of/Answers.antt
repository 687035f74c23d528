use Rattle.std.proofs.Common.{take, sym, ap, ◌∙◌}
use Rattle.std.proofs.lemmas.List.Sums.{fold_more}
use Rattle.explain_areas.specs.RowTexts.{nothing, sum_of, with_row}
use Rattle.explain_areas.proofs.sums.sum_of.Goals as goal

pub loop-row-preserved : goal.loop-row-preserved
loop-row-preserved c =
    let rows = c.args.rows.now in
    let i = c.loop-row.row-index in
    let its = c.row-item.result in
    c.with_row-sum.ensures ∙ ap (λ s. with_row s its) c.loop-row.invariant ∙ ap (with_row (sum_of (take i rows))) c.row-item.is
    ∙ sym (fold_more with_row nothing rows i its c.loop-row-test.true)
