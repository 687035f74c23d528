use Rattle.std.proofs.Common.{◌+◌}
use Rattle.run_tree.proofs.tree.RunTree.+merge.Given as goal

abbrev pub decreases-merge : goal.decreases-merge
decreases-merge l = l.self.count + l.other.count
