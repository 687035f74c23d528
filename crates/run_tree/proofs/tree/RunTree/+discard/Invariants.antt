use Rattle.run_tree.proofs.tree.RunTree.+discard.Given as goal

abbrev pub decreases-discard : goal.decreases-discard
decreases-discard l = l.self.count
