use Rattle.std.proofs.Common.{ap, ℕ, IsSome, Some, ◌∙◌, sym, subst}
use Rattle.row_table.specs.Items.{item_in}
use Rattle.row_table.specs.Trees.{items}
use Rattle.row_table.specs.RowTable.{row, IsTable}
use Rattle.row_table.proofs.KeyLemmas.{some_low, some_item}
use Rattle.row_table.proofs.CallLemmas.{takes_key, took_row, took_rows}
use Rattle.row_table.proofs.table.RowTable.take_out.Goals as goal

pub take-item-requires-clause-there : goal.take-item-requires-clause-there
unfolding row
take-item-requires-clause-there c =
    let P : ℕ → Type 0 = λ k. IsSome (item_in k (items c.args.elements.now c.args.self.now.tree)) in
    subst P (sym c.key_of.ensures.key) (some_item c.args.first c.args.second (items c.args.elements.now c.args.self.now.tree) c.requires.there)

pub returns-clause-row : goal.returns-clause-row
unfolding row IsTable
returns-clause-row c =
    took_row c.args.elements.now c.take-item.new.elements c.args.self.now.tree c.take-item.new.self c.args.first c.args.second c.take-item.result c.requires.table (some_low c.args.first c.args.second (items c.args.elements.now c.args.self.now.tree) c.requires.there)
    (takes_key c.args.elements.now c.take-item.new.elements c.args.self.now.tree c.take-item.new.self c.take-item.result _ _ c.key_of.ensures.key c.take-item.ensures)
    ∙ ap Some (sym c.row_of.ensures.row)

pub returns-clause-rows : goal.returns-clause-rows
unfolding row IsTable
returns-clause-rows c =
    took_rows c.args.elements.now c.take-item.new.elements c.args.self.now.tree c.take-item.new.self c.args.first c.args.second c.take-item.result c.requires.table (some_low c.args.first c.args.second (items c.args.elements.now c.args.self.now.tree) c.requires.there)
    (takes_key c.args.elements.now c.take-item.new.elements c.args.self.now.tree c.take-item.new.self c.take-item.result _ _ c.key_of.ensures.key c.take-item.ensures)
