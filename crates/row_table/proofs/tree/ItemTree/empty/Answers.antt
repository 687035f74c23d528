use Rattle.row_table.proofs.TreeLemmas.{empty_tree, empty_items, empty_owned}
use Rattle.row_table.proofs.tree.ItemTree.empty.Goals as goal

pub returns-clause-tree : goal.returns-clause-tree
returns-clause-tree c s = empty_tree s

pub returns-clause-items : goal.returns-clause-items
returns-clause-items c s = empty_items s

pub returns-clause-owned : goal.returns-clause-owned
returns-clause-owned c s = empty_owned s
