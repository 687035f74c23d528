use Rattle.run_tree.proofs.tree.RunTree.+split.Given as goal

abbrev pub decreases-split : goal.decreases-split
decreases-split l = l.self.count
