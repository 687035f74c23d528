use Rattle.run_tree.proofs.tree.RunTree.+put.Given as goal

abbrev pub decreases-put : goal.decreases-put
decreases-put l = l.self.count
