use Rattle.run_tree.proofs.tree.RunTree.+cut_below.Given as goal

abbrev pub decreases-cut_below : goal.decreases-cut_below
decreases-cut_below l = l.self.count
