use Rattle.run_tree.proofs.tree.RunTree.+exchange.Given as goal

abbrev pub decreases-exchange : goal.decreases-exchange
decreases-exchange l = l.self.count
