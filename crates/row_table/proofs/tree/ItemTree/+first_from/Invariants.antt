use Rattle.row_table.specs.Trees.{count}
use Rattle.row_table.proofs.tree.ItemTree.+first_from.Given as goal

abbrev pub decreases-first_from : goal.decreases-first_from
decreases-first_from l = count l.elements.now l.self
