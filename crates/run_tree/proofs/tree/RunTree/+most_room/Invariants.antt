use Rattle.run_tree.proofs.tree.RunTree.+most_room.Given as goal

abbrev pub decreases-most_room : goal.decreases-most_room
decreases-most_room l = l.self.count
