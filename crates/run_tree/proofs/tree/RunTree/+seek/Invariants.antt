use Rattle.run_tree.proofs.tree.RunTree.+seek.Given as goal

abbrev pub decreases-seek : goal.decreases-seek
decreases-seek l = l.self.count
