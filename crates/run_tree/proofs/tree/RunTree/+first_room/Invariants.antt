use Rattle.run_tree.proofs.tree.RunTree.+first_room.Given as goal

abbrev pub decreases-first_room : goal.decreases-first_room
decreases-first_room l = l.self.count
