use Rattle.std.proofs.Common.{◌+◌, ◌≤◌, refl, sym, arith}
use Rattle.row_table.specs.Rows.{word}
use Rattle.subpool_set.specs.SubpoolSet.{sight, IsSubpoolSet}
use Rattle.subpool_set.proofs.LastLemmas.{no_numbers, last_range, numbers_are_below}
use Rattle.subpool_set.proofs.set.SubpoolSet.numbers_end.Goals as goal

pub overflow_cast-result : goal.overflow_cast-result
unfolding IsSubpoolSet
overflow_cast-result c =
    let low : word c.in-Some.row.words 1 ≤ 127 = last_range c.args.elements.now c.args.self.now.rows c.requires c.in-Some.row (sym c.in-Some.ensures.last) in
    omega (arith, low)

pub overflow_add-result : goal.overflow_add-result
unfolding IsSubpoolSet
overflow_add-result c =
    let low : word c.in-Some.row.words 1 ≤ 127 = last_range c.args.elements.now c.args.self.now.rows c.requires c.in-Some.row (sym c.in-Some.ensures.last) in
    omega (arith, low)

pub returns-in-Some : goal.returns-in-Some
unfolding IsSubpoolSet sight
returns-in-Some c = numbers_are_below c.args.elements.now c.args.self.now.rows c.requires c.in-Some.row (sym c.in-Some.ensures.last) (word c.in-Some.row.words 1 + 1) refl

pub returns-in-None : goal.returns-in-None
unfolding IsSubpoolSet sight
returns-in-None c = no_numbers c.args.elements.now c.args.self.now.rows c.requires (sym c.in-None.ensures.last)
