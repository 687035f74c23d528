use Rattle.run_tree.proofs.tree.RunTree.+get.Given as goal

abbrev pub decreases-get : goal.decreases-get
decreases-get l = l.self.count
