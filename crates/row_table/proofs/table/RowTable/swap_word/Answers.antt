use Rattle.row_table.specs.Trees.{words_at}
use Rattle.std.specs.Prelude.{slice_set, ◌-◌}
use Rattle.row_table.specs.RowTable.{row, owned, words_of, IsTable}
use Rattle.row_table.proofs.CallLemmas.{set_leaves}
use Rattle.row_table.proofs.RowIdLemmas.{row_ids_are}
use Rattle.row_table.proofs.SetLemmas.{swapped_kept, swapped_rows, swapped_answer, swapped_here}
use Rattle.row_table.proofs.table.RowTable.swap_word.Goals as goal

pub swap_word-requires-clause-there : goal.swap_word-requires-clause-there
unfolding owned
swap_word-requires-clause-there c = (row_ids_are c.args.elements.now c.args.self.now c.args.id c.requires.table).1 _ _ _ c.requires.row

pub returns-clause-table : goal.returns-clause-table
unfolding row words_of IsTable
returns-clause-table c = swapped_kept c.args.elements.now c.args.self.now.tree c.args.id c.args.place c.args.value c.requires.table c.requires.row c.requires.place.0 c.swap_word.new.elements c.swap_word.ensures.writes

pub returns-clause-rows : goal.returns-clause-rows
unfolding row words_of IsTable
returns-clause-rows c = swapped_rows c.args.elements.now c.args.self.now.tree c.args.id c.args.place c.args.value c.requires.table c.requires.row c.requires.place.0 c.swap_word.new.elements c.swap_word.ensures.writes

pub returns-clause-answer : goal.returns-clause-answer
unfolding words_of
returns-clause-answer c = swapped_answer c.args.elements.now c.args.id c.args.place c.swap_word.result c.requires.place.0 c.swap_word.ensures.answer

pub returns-clause-here : goal.returns-clause-here
unfolding words_of
returns-clause-here c = swapped_here c.args.elements.now c.args.id c.args.place c.args.value c.requires.place.0 c.swap_word.ensures.here

pub returns-clause-owned : goal.returns-clause-owned
unfolding owned
returns-clause-owned c = set_leaves c.args.elements.now c.swap_word.new.elements c.args.self.now.tree c.args.id (slice_set (words_at c.args.elements.now c.args.id) (c.args.place - 1) c.args.value) c.swap_word.ensures.writes ((row_ids_are c.args.elements.now c.args.self.now c.args.id c.requires.table).1 _ _ _ c.requires.row)
