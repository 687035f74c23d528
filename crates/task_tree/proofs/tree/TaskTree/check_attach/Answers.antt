use Rattle.std.proofs.Common.{◌≡◌, ℕ, Option, true, false, Some, None, is_some, not, refl, sym, ap, ◌∙◌, arith}
use Rattle.row_table.specs.RowTable.{row}
use Rattle.task_tree.specs.Kept.{parents_in}
use Rattle.task_tree.specs.TaskTree.{parent}
use Rattle.task_tree.proofs.tree.TaskTree.check_attach.Goals as goal

none_is : (x : Option ℕ) → is_some x ≡ false → x ≡ None
none_is None e = refl
none_is (Some n) e = absurd (no e) where
  no : true ≡ false → ⊥
  no e = cc

pub returns-clause-err : goal.returns-clause-err
unfolding parent
returns-clause-err c = (refl, λ t low high. c.loop-number.invariant t low (omega (arith, high, c.loop-number-test.false, c.loop-number.auto.number-end)))

pub returns-then-is_none-clause-ok : goal.returns-then-is_none-clause-ok
unfolding parent
returns-then-is_none-clause-ok c = record {
  low = c.loop-number.auto.number;
  high = omega (arith, c.loop-number-test.true);
  free = ap (parents_in (row c.args.elements.now c.args.self.now.rows)) (sym c.from.ensures) ∙ sym c.parent_in.ensures ∙ none_is _ (c.is_none.ensures ∙ ap not c.if-is_none.true);
  least = c.loop-number.invariant;
}
