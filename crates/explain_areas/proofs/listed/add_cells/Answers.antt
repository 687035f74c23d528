use Rattle.std.proofs.Common.{Global, Vec, true, false, ◌≡◌, [], ◌∷◌, ◌++◌, map, take, sym, ap, ◌∙◌}
use Rattle.std.specs.Prelude.{filter}
use Rattle.std.proofs.lemmas.List.{append-nil}
use Rattle.explain_areas.specs.Rows.{cell_row, is_chosen}
use Rattle.explain_areas.specs.declared.rows.Row.{Row}
use Rattle.explain_areas.proofs.MoreRows.{chosen_more}
use Rattle.explain_areas.proofs.listed.add_cells.Goals as goal
use Rattle.explain_areas.proofs.listed.add_cells.Goals.{then-is_chosen+in_ok-push, else-is_chosen}

pub loop-cell-preserved : goal.loop-cell-preserved
loop-cell-preserved c = λ settings xs carried.
    let choice = c.args.choice.now in
    let all = c.args.cells.now in
    let i = c.loop-cell.cell-index in
    let its = c.cell-item.result in
    let below = c.loop-cell-test.true in
    let was = c.args.rows.now.items in
    let before = c.loop-cell.invariant settings xs carried in
    let more = chosen_more (cell_row settings xs) (is_chosen choice) was all i its in
    elim c.if-is_chosen.branch [
      | then-is_chosen+in_ok-push w ↦
          ap (λ (v : Vec Row Global). v.items) w.rows-is ∙ w.in_ok-push.ensures.items ∙ ap (λ ys. ys ++ w.cell_row.result ∷ []) before
          ∙ ap (λ r. (was ++ map (cell_row settings xs) (filter (is_chosen choice) (take i all))) ++ r ∷ []) (w.cell_row.ensures settings xs carried)
          ∙ more true below c.cell-item.is (sym c.is_chosen.ensures ∙ w.if-is_chosen.true)
      | else-is_chosen w ↦
          ap (λ (v : Vec Row Global). v.items) w.rows-is ∙ before ∙ sym (append-nil (was ++ map (cell_row settings xs) (filter (is_chosen choice) (take i all))))
          ∙ more false below c.cell-item.is (sym c.is_chosen.ensures ∙ w.if-is_chosen.false)
    ]
