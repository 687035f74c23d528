use Rattle.std.proofs.Common.{sym, ap, ◌∙◌}
use Rattle.std.specs.Prelude.{Some, option_map}
use Rattle.row_table.specs.Trees.{items}
use Rattle.row_table.specs.Keys.{row_in_item}
use Rattle.row_table.specs.RowTable.{rows, IsTable}
use Rattle.row_table.proofs.HalfLemmas.{last_rows, few_rows}
use Rattle.row_table.proofs.table.RowTable.last.Goals as goal

pub returns-in-Some-clause-last : goal.returns-in-Some-clause-last
unfolding rows
returns-in-Some-clause-last c = ap Some c.row_of.ensures.row ∙ sym (last_rows (items c.args.elements.now c.args.self.now.tree) ∙ ap (option_map row_in_item) (sym c.last.ensures ∙ c.in-Some.is))

pub returns-in-Some-clause-few : goal.returns-in-Some-clause-few
unfolding rows IsTable
returns-in-Some-clause-few c = few_rows c.args.elements.now c.args.self.now.tree c.requires

pub returns-in-None-clause-last : goal.returns-in-None-clause-last
unfolding rows
returns-in-None-clause-last c = sym (last_rows (items c.args.elements.now c.args.self.now.tree) ∙ ap (option_map row_in_item) (sym c.last.ensures ∙ c.in-None.is))

pub returns-in-None-clause-few : goal.returns-in-None-clause-few
unfolding rows IsTable
returns-in-None-clause-few c = few_rows c.args.elements.now c.args.self.now.tree c.requires
