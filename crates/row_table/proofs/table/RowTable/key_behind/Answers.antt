use Rattle.std.proofs.Common.{ap, ℕ, ◌+◌}
use Rattle.row_table.specs.RowTable.{IsTable, IsPlace}
use Rattle.row_table.proofs.WalkLemmas.{front_place, last_owned, inner_place}
use Rattle.row_table.proofs.table.RowTable.key_behind.Goals as goal

pub returns-then-place-eq0 : goal.returns-then-place-eq0
unfolding IsTable IsPlace
returns-then-place-eq0 c = front_place c.args.elements.now c.args.self.now.tree c.requires.table c.args.place.index c.args.place.before c.requires.place c.if-place-eq0.true

pub get-last-requires-clause-there : goal.get-last-requires-clause-there
unfolding IsTable IsPlace
get-last-requires-clause-there c = last_owned c.args.elements.now c.args.self.now.tree c.requires.table c.args.place.index c.args.place.before c.requires.place c.if-place-eq0.false

pub returns : goal.returns
unfolding IsTable IsPlace
returns c = inner_place c.args.elements.now c.args.self.now.tree c.requires.table c.args.place.index c.args.place.before c.requires.place c.if-place-eq0.false (c.from.result + 1) c.get-last.result.words c.get-last.ensures.stored (ap (λ (k : ℕ). k + 1) c.from.ensures)
