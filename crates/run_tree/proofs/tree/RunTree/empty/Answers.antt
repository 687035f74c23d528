use Rattle.run_tree.proofs.TreeLemmas.{empty_tree, empty_runs, empty_owned}
use Rattle.run_tree.proofs.tree.RunTree.empty.Goals as goal

pub returns-clause-tree : goal.returns-clause-tree
returns-clause-tree c s = empty_tree s

pub returns-clause-runs : goal.returns-clause-runs
returns-clause-runs c s = empty_runs s

pub returns-clause-owned : goal.returns-clause-owned
returns-clause-owned c s = empty_owned s
