use Rattle.std.proofs.Common.{take, ◌++◌}
use Rattle.row_table.specs.Trees.{words_at}
use Rattle.row_table.specs.RowTable.{row, owned, words_of, IsTable}
use Rattle.row_table.proofs.CallLemmas.{set_leaves}
use Rattle.row_table.proofs.RowIdLemmas.{row_ids_are}
use Rattle.row_table.proofs.SetLemmas.{last_kept, last_rows, seven_long}
use Rattle.row_table.proofs.table.RowTable.set_last.Goals as goal

pub set_last-requires-clause-there : goal.set_last-requires-clause-there
unfolding owned
set_last-requires-clause-there c = (row_ids_are c.args.elements.now c.args.self.now c.args.id c.requires.table).1 _ _ _ c.requires.row

pub returns-clause-table : goal.returns-clause-table
unfolding row words_of IsTable
returns-clause-table c = last_kept c.args.elements.now c.args.self.now.tree c.args.id c.args.four c.requires.table c.requires.row c.set_last.ensures.six c.set_last.new.elements c.set_last.ensures.writes

pub returns-clause-rows : goal.returns-clause-rows
unfolding row words_of IsTable
returns-clause-rows c = last_rows c.args.elements.now c.args.self.now.tree c.args.id c.args.four c.requires.table c.requires.row c.set_last.ensures.six c.set_last.new.elements c.set_last.ensures.writes

pub returns-clause-seven : goal.returns-clause-seven
unfolding words_of
returns-clause-seven c = seven_long (words_at c.args.elements.now c.args.id) c.set_last.ensures.six

pub returns-clause-owned : goal.returns-clause-owned
unfolding owned
returns-clause-owned c = set_leaves c.args.elements.now c.set_last.new.elements c.args.self.now.tree c.args.id (take 2 (words_at c.args.elements.now c.args.id) ++ c.args.four) c.set_last.ensures.writes ((row_ids_are c.args.elements.now c.args.self.now c.args.id c.requires.table).1 _ _ _ c.requires.row)
