use Rattle.row_table.specs.Trees.{count}
use Rattle.row_table.proofs.tree.ItemTree.+split.Given as goal

abbrev pub decreases-split : goal.decreases-split
decreases-split l = count l.elements.now l.self
