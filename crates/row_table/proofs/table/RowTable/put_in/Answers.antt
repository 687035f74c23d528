use Rattle.std.proofs.Common.{ap, ℕ, ◌∙◌}
use Rattle.row_table.specs.Items.{item_in}
use Rattle.row_table.specs.Trees.{items}
use Rattle.row_table.specs.Rows.{word}
use Rattle.row_table.specs.RowTable.{row, IsTable}
use Rattle.row_table.proofs.KeyLemmas.{none_item}
use Rattle.row_table.proofs.CallLemmas.{put_rows}
use Rattle.row_table.proofs.table.RowTable.put_in.Goals as goal

pub put-requires-clause-absent : goal.put-requires-clause-absent
unfolding row
put-requires-clause-absent c = ap (λ (k : ℕ). item_in k (items c.args.elements.now c.args.self.now.tree)) c.item_words.ensures.key ∙ none_item (word c.args.words 0) (word c.args.words 1) (items c.args.elements.now c.args.self.now.tree) c.requires.range.first c.requires.absent

pub returns-clause-rows : goal.returns-clause-rows
unfolding row IsTable
returns-clause-rows c = put_rows c.args.elements.now c.put.new.elements c.args.self.now.tree c.put.new.self (record { id = c.args.id; words = c.item_words.result }) c.args.words c.item_words.ensures.back c.requires.table c.requires.absent c.put.ensures
