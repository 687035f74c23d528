use Rattle.std.proofs.Common.{List, ap, sym, ◌∙◌}
use Rattle.std.specs.Prelude.{map}
use Rattle.row_table.specs.declared.item.Item.{Item}
use Rattle.row_table.specs.Trees.{items}
use Rattle.row_table.proofs.ShapeLemmas.{id_of}
use Rattle.row_table.proofs.TreeLemmas.{owned_ids}
use Rattle.row_table.specs.RowTable.{row, owned}
use Rattle.row_table.specs.Rows.{row_in}
use Rattle.row_table.specs.Keys.{link_in}
use Rattle.row_table.proofs.WalkLemmas.{first_none, first_row}
use Rattle.row_table.proofs.table.RowTable.any.Goals as goal

pub returns-in-None-clause-none : goal.returns-in-None-clause-none
unfolding owned
returns-in-None-clause-none c = owned_ids c.args.elements.now c.args.self.now.tree ∙ ap (map id_of) (first_none (items c.args.elements.now c.args.self.now.tree) (sym c.find_from.ensures ∙ c.in-None.is))

pub returns-in-None-clause-empty : goal.returns-in-None-clause-empty
unfolding row
returns-in-None-clause-empty c a b = ap (λ (ns : List Item). row_in a b (map link_in ns)) (first_none (items c.args.elements.now c.args.self.now.tree) (sym c.find_from.ensures ∙ c.in-None.is))

pub returns-in-Some-clause-some : goal.returns-in-Some-clause-some
unfolding row
returns-in-Some-clause-some c = first_row (items c.args.elements.now c.args.self.now.tree) c.in-Some.item c.row_of.result (sym c.find_from.ensures ∙ c.in-Some.is) c.row_of.ensures.row
