use Rattle.std.proofs.Common.{◌+◌, ◌≤◌, Some, ap, sym, refl, ◌∙◌, arith}
use Rattle.std.specs.Prelude.{option_map}
use Rattle.row_table.specs.Trees.{items}
use Rattle.row_table.specs.Keys.{row_in_item}
use Rattle.row_table.specs.RowTable.{rows, place_index, IsTable, IsPlace}
use Rattle.row_table.proofs.WalkLemmas.{rows_item, next_stands, next_fits}
use Rattle.row_table.proofs.table.RowTable.next_row.Goals as goal

pub overflow_add-next : goal.overflow_add-next
unfolding IsTable IsPlace
overflow_add-next c =
    let h : c.args.place.index + 1 ≤ 4294967040 = next_fits c.args.elements.now c.args.self.now.tree c.requires.table c.args.place.index c.args.place.before c.requires.place c.in-Some.item (sym c.key_behind-from.ensures ∙ sym c.find_from.ensures ∙ c.in-Some.is) in
    omega arith

pub returns-in-Some-clause-row : goal.returns-in-Some-clause-row
unfolding rows place_index
returns-in-Some-clause-row c = ap Some c.row_of.ensures.row ∙ sym (rows_item (items c.args.elements.now c.args.self.now.tree) c.args.place.index ∙ ap (option_map row_in_item) (sym c.key_behind-from.ensures ∙ sym c.find_from.ensures ∙ c.in-Some.is))

pub returns-in-Some-clause-next : goal.returns-in-Some-clause-next
unfolding IsTable IsPlace place_index
returns-in-Some-clause-next c = (next_stands c.args.elements.now c.args.self.now.tree c.requires.table c.args.place.index c.args.place.before c.requires.place c.in-Some.item (sym c.key_behind-from.ensures ∙ sym c.find_from.ensures ∙ c.in-Some.is), refl)
