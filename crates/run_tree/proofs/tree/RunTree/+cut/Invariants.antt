use Rattle.run_tree.proofs.tree.RunTree.+cut.Given as goal

abbrev pub decreases-cut : goal.decreases-cut
decreases-cut l = l.self.count
