use Rattle.std.proofs.Common.{◌≡◌, ℕ, ◌==◌, ◌&&◌, nat_lt, None, subst}
use Rattle.std.specs.Prelude.{if◌then◌else◌}
use Rattle.row_table.specs.RowTable.{row}
use Rattle.task_tree.specs.Kept.{Rows}
use Rattle.task_tree.specs.TaskTree.{parent, word, current, owned, IsTaskTree}
use Rattle.task_tree.proofs.EndLemmas.{ended_tree, ended_running, ended_rows}
use Rattle.task_tree.proofs.QuarterLemmas.{same_quarters}
use Rattle.task_tree.proofs.tree.TaskTree.end_task.Goals as goal

gone_by : (f g : Rows) (x t : ℕ) → x ≡ t → ((a b : ℕ) → g a b ≡ (if (a == x) && nat_lt b 4 then None else f a b))
    → (a b : ℕ) → g a b ≡ (if (a == t) && nat_lt b 4 then None else f a b)
gone_by f g x t p e = let P : ℕ → Type 0 = λ z. (a b : ℕ) → g a b ≡ (if (a == z) && nat_lt b 4 then None else f a b) in subst P p e

pub returns-clause-tree : goal.returns-clause-tree
unfolding parent word current owned IsTaskTree
returns-clause-tree c =
    let old = row c.args.elements.now c.args.self.now.rows in
    let new = row c.remove_task.new.elements c.remove_task.new.rows in
    let left : (a b : ℕ) → new a b ≡ (if (a == c.args.task) && nat_lt b 4 then None else old a b) = gone_by old new c.from.result c.args.task c.from.ensures c.remove_task.ensures.left in
    record {
      table = c.remove_task.ensures.table;
      tree = ended_tree old new c.args.task c.requires.tree.tree c.requires.there c.requires.other c.requires.childless left;
      running = ended_running old new c.args.task c.requires.tree.tree c.requires.there c.requires.other c.requires.childless left c.args.self.now.current c.requires.idle c.requires.tree.running;
      quarters = same_quarters old new c.args.self.now.current c.args.self.now.quarters (ended_rows old new c.args.task c.requires.tree.tree c.requires.there c.requires.other c.requires.childless left c.args.self.now.current c.requires.idle) c.requires.tree.quarters;
    }
