use Rattle.row_table.specs.Trees.{count}
use Rattle.row_table.proofs.tree.ItemTree.+last_or.Given as goal

abbrev pub decreases-last_or : goal.decreases-last_or
decreases-last_or l = count l.elements.now l.self
