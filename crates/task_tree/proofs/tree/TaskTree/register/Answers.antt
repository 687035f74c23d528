use Rattle.std.proofs.Common.{ℕ, ◌+◌, ◌/◌, ◌%◌, List, Option, sym, ap, ◌∙◌, get_or}
use Rattle.row_table.specs.declared.row.Row.{Row}
use Rattle.row_table.specs.RowTable.{row, words_of}
use Rattle.task_tree.specs.Kept.{register_in}
use Rattle.task_tree.specs.TaskTree.{word, IsTaskTree}
use Rattle.task_tree.proofs.QuarterLemmas.{quarter_is, quarter_stands, no_quarter}
use Rattle.task_tree.proofs.tree.TaskTree.register.Goals as goal

pub words-requires-clause-row : goal.words-requires-clause-row
unfolding IsTaskTree
words-requires-clause-row c = quarter_stands c.args.elements.now c.args.self.now.rows c.args.task (c.args.r / 4) c.in-Some.id c.requires.tree.table (sym c.quarter_id.ensures ∙ c.in-Some.is)

pub returns-in-Some : goal.returns-in-Some
unfolding word IsTaskTree
returns-in-Some c =
    ap (λ (w : List ℕ). get_or w (3 + c.from.result) 0) c.words.ensures
    ∙ ap (λ (z : ℕ). get_or (words_of c.args.elements.now c.in-Some.id) (3 + z) 0) c.from.ensures
    ∙ sym (ap (λ (x : Option Row). register_in x (c.args.r % 4)) (quarter_is c.args.elements.now c.args.self.now.rows c.args.task (c.args.r / 4) c.in-Some.id c.requires.tree.table (sym c.quarter_id.ensures ∙ c.in-Some.is)))

pub returns-in-None : goal.returns-in-None
unfolding word IsTaskTree
returns-in-None c = sym (ap (λ (x : Option Row). register_in x (c.args.r % 4)) (no_quarter (row c.args.elements.now c.args.self.now.rows c.args.task (c.args.r / 4)) (sym c.quarter_id.ensures ∙ c.in-None.is)))
