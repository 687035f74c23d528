use Rattle.std.proofs.Common.{ℕ, List, sym, subst, arith}
use Rattle.row_table.specs.Rows.{IsInRange}
use Rattle.task_tree.proofs.moves.add_task.Goals as goal

pub insert-requires-clause-range : goal.insert-requires-clause-range
insert-requires-clause-range c =
    let P : List ℕ → Type 0 = IsInRange in
    subst P (sym c.first_words.ensures) (record { first = c.requires.range; second = omega (arith, c.loop-quarter-test.true) })
