use Rattle.run_tree.proofs.tree.RunTree.+rewrite.Given as goal

abbrev pub decreases-rewrite : goal.decreases-rewrite
decreases-rewrite l = l.self.count
