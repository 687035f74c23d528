use Rattle.std.proofs.Common.{◌∷◌, refl}
use Rattle.row_table.specs.declared.item.Item.{Item}
use Rattle.row_table.specs.Trees.{key_at}
use Rattle.row_table.specs.RowTable.{row, owned, IsTable}
use Rattle.row_table.proofs.CallLemmas.{set_leaves}
use Rattle.row_table.proofs.SetLemmas.{named_owned, item_at, own_parts, named_kept, named_rows}
use Rattle.row_table.proofs.table.RowTable.set_row.Goals as goal

pub set_rest-requires-clause-there : goal.set_rest-requires-clause-there
unfolding row IsTable
set_rest-requires-clause-there c = named_owned c.args.elements.now c.args.self.now.tree c.args.id c.args.words c.requires.table c.requires.row

pub returns-clause-table : goal.returns-clause-table
unfolding row IsTable
returns-clause-table c =
    let item : Item = item_at c.args.elements.now c.args.id in
    let own = own_parts c.args.elements.now c.args.self.now.tree c.args.id c.args.words c.requires.table c.requires.row item refl refl in
    named_kept c.args.elements.now c.args.self.now.tree c.args.id c.args.words c.requires.table c.requires.row item refl refl
    c.set_rest.new.elements (key_at c.args.elements.now c.args.id ∷ c.words_behind_key.result) refl (c.words_behind_key.ensures.back _ own.0 own.1) c.set_rest.ensures

pub returns-clause-rows : goal.returns-clause-rows
unfolding row IsTable
returns-clause-rows c =
    let item : Item = item_at c.args.elements.now c.args.id in
    let own = own_parts c.args.elements.now c.args.self.now.tree c.args.id c.args.words c.requires.table c.requires.row item refl refl in
    named_rows c.args.elements.now c.args.self.now.tree c.args.id c.args.words c.requires.table c.requires.row item refl refl
    c.set_rest.new.elements (key_at c.args.elements.now c.args.id ∷ c.words_behind_key.result) refl (c.words_behind_key.ensures.back _ own.0 own.1) c.set_rest.ensures

pub returns-clause-owned : goal.returns-clause-owned
unfolding row owned IsTable
returns-clause-owned c = set_leaves c.args.elements.now c.set_rest.new.elements c.args.self.now.tree c.args.id (key_at c.args.elements.now c.args.id ∷ c.words_behind_key.result) c.set_rest.ensures (named_owned c.args.elements.now c.args.self.now.tree c.args.id c.args.words c.requires.table c.requires.row)
